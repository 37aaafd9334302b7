-- Each sale that stands has its fact.
use Rattle.std.proofs.Common.{◌≡◌, ℕ, zero, suc, ◌==◌, ◌&&◌, Bool, true, false, cond, List, [], ◌∷◌, Some, None, refl, ap, sym, ◌∙◌}
use Rattle.std.specs.Prelude.{bytes_eq, find, option_map}
use Rattle.std.specs.List.{IsDistinct}
use Rattle.std.proofs.lemmas.Bool.{eq-eqb}
use Rattle.std.proofs.lemmas.Slice.Eq.{bytes_eq-Decides}
use Rattle.wh_policy.specs.declared.record.SaleRecord.{SaleRecord}
use Rattle.wh_history.specs.Accepted.{format_of, sold, withdrawn, standing}
use Rattle.wh_history.specs.Keys.{at_place}
use Rattle.wh_history.specs.Tables.{fact_of}
use Rattle.wh_history.proofs.Basics.{some_is}
use Rattle.wh_history.proofs.Standing.{found_standing}
use Rattle.wh_rows.specs.declared.key.LineKey.{LineKey}
use Rattle.wh_model.specs.Defined.{fact_at}
use Rattle.wh_model.specs.Laws.{FactsAreWhole}
use Rattle.wh_model.specs.Sound.{IsGoodSale, same_line}
use Rattle.wh_model.proofs.EffectiveFacts.{members_named}
use Rattle.wh_model.proofs.Following.{Named, all_named}
use Rattle.wh_model.proofs.GrownKeys.{all_at}
use Rattle.wh_model.proofs.SameLines.{line_turned}
use Rattle.wh_model.proofs.Formatted.{same_as_itself}

-- the sale has the line
abbrev pub on_line : LineKey → SaleRecord → Bool
on_line key s = bytes_eq s.ticket key.ticket && (s.line == key.line)

itself : (key : LineKey) (s : SaleRecord) → s.ticket ≡ key.ticket → s.line ≡ key.line → on_line key s ≡ true
itself key s ticket line = rw ((bytes_eq-Decides s.ticket key.ticket).1 ticket, eq-eqb s.line key.line line) refl

other : (key : LineKey) (t s : SaleRecord) → s.ticket ≡ key.ticket → s.line ≡ key.line → same_line t s ≡ false → on_line key t ≡ false
other key t s ticket line apart =
    line_turned t.ticket key.ticket t.line key.line
    ∙ ap (λ text. bytes_eq text t.ticket && (key.line == t.line)) (sym ticket)
    ∙ ap (λ number. bytes_eq s.ticket t.ticket && (number == t.line)) (sym line)
    ∙ apart

-- where no two sales have one line, the sale of a line is found there
sale_found : (key : LineKey) (n : ℕ) (sales : List SaleRecord) (s : SaleRecord) → IsDistinct same_line sales → at_place n sales ≡ Some s → s.ticket ≡ key.ticket → s.line ≡ key.line → find (on_line key) sales ≡ Some s
unfolding IsDistinct
sale_found key zero sales s once there ticket line = absurd cc
sale_found key (suc n) [] s once there ticket line = absurd cc
sale_found key (suc zero) (t ∷ sales) s once there ticket line =
    let first = some_is t s there in
    let here = itself key t (ap (λ (u : SaleRecord). u.ticket) first ∙ ticket) (ap (λ (u : SaleRecord). u.line) first ∙ line) in
    rw here there
sale_found key (suc (suc n)) (t ∷ sales) s once there ticket line =
    let elsewhere = other key t s ticket line (all_at (λ u. same_line t u ≡ false) (suc n) sales s once.0 there) in
    rw elsewhere (sale_found key (suc n) sales s once.1 there ticket line)

pub facts_are_whole : FactsAreWhole
facts_are_whole limits commands key s ok sale =
    let stands : find (on_line key) (standing commands) ≡ Some s =
    found_standing (withdrawn commands) key.ticket key.line (sold commands)
    ∙ ap (λ b. cond b None (find (on_line key) (sold commands))) sale.stands
    ∙ sale_found key sale.number (sold commands) s ok.lines sale.there sale.ticket sale.line in
    let good = all_at IsGoodSale sale.number (sold commands) s ok.sales sale.there in
    let named = all_at (Named commands) sale.number (sold commands) s (all_named commands) sale.there in
    record {
      fact = fact_of commands s;
      there = ap (λ b. cond b (fact_at commands key) None) (same_as_itself (format_of commands)) ∙ ap (option_map (fact_of commands)) stands;
      figures = record { ticket = refl; line = refl; day = refl; quantity = refl; amount = refl; cost = refl; discount = refl };
      names = members_named limits commands ok s good named;
    }
