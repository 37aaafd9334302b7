-- How many lines of tickets the tables of accepted commands keep.
use Rattle.std.proofs.Common.{◌≡◌, List, length, ap, sym, arith}
use Rattle.wh_policy.specs.declared.format.Format.{Format}
use Rattle.wh_policy.specs.declared.format.Format.TheVariants.{One, Two}
use Rattle.wh_policy.specs.declared.record.VoidRecord.{VoidRecord}
use Rattle.wh_history.specs.Accepted.{Accepted, format_of, sold, withdrawn}
use Rattle.wh_history.specs.Tables.{Limits}
use Rattle.wh_rows.specs.Tables.{Tables}
use Rattle.wh_model.specs.Defined.{AreOf}
use Rattle.wh_model.specs.Sound.{IsAccepted}
use Rattle.wh_model.proofs.CountedLines.{voids_counted, lines_counted}
use Rattle.wh_engine.specs.Decided.{lines_in}

module _ (limits : Limits) (commands : List Accepted) (t : Tables) (are : AreOf limits commands t) (ok : IsAccepted limits commands) where
  -- as many as were sold
  pub lines_kept : (format : Format) → format ≡ format_of commands → lines_in format t ≡ length (sold commands)
  lines_kept One same =
      let none : length (withdrawn commands) ≡ 0 = ap (λ (vs : List VoidRecord). length vs) (ok.unwithdrawn (sym same)) in
      let voids = voids_counted limits commands t are ok in
      let all = lines_counted limits commands t are ok One same in
      omega (arith, none, voids, all)
  lines_kept Two same = lines_counted limits commands t are ok Two same
