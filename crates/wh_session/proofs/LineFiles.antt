-- The words of a line are about the session's warehouse, or a trial.
use Rattle.std.proofs.Common.{◌≡◌, ◌||◌, refl, sym, subst, Bool, cond, true, false, not, List, [], ◌∷◌, codes}
use Rattle.std.specs.Prelude.{bytes_eq}
use Rattle.std.proofs.lemmas.Slice.Eq.{bytes_eq-Decides}
use Rattle.clap.specs.Words.{Text}
use Rattle.clap.specs.declared.error.kind.ErrorKind.TheVariants.{MissingSubcommand}
use Rattle.wh_words.specs.CommandLine.{is_operand}
use Rattle.wh_words.proofs.CommandFaults.{not_asked, no_words}
use Rattle.wh_words.proofs.FileWords.{Keeps, behind_keeps, none_keeps, option_asked, trial_keeps}
use Rattle.wh_words.proofs.PlainWords.{help_asked}
use Rattle.wh_session.specs.Line.{with_file}

module _ (file : Text) (plain : is_operand file ≡ true) where
  pub line_keeps : (words : List Text) → Keeps file (with_file file words)
  line_keeps [] = none_keeps file [] (not_asked [] MissingSubcommand [] no_words)
  line_keeps (w ∷ words) = by (is_operand w) (bytes_eq w (codes "help")) (bytes_eq w (codes "trial")) refl refl refl
    where
      by : (a h t : Bool) → is_operand w ≡ a → bytes_eq w (codes "help") ≡ h → bytes_eq w (codes "trial") ≡ t → Keeps file (cond (not a || (h || t)) (w ∷ words) (w ∷ file ∷ words))
      by false h t is help trial = none_keeps file (w ∷ words) (option_asked w words is)
      by true true t is help trial = subst (λ (v : Text). Keeps file (v ∷ words)) (sym ((bytes_eq-Decides w (codes "help")).0 help)) (none_keeps file (codes "help" ∷ words) (help_asked words))
      by true false true is help trial = subst (λ (v : Text). Keeps file (v ∷ words)) (sym ((bytes_eq-Decides w (codes "trial")).0 trial)) (trial_keeps file words)
      by true false false is help trial = behind_keeps file plain w words is
