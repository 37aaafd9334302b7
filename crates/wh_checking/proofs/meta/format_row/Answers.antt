use Rattle.std.proofs.Common.{◌≡◌, true, codes, refl, subst, sym}
use Rattle.std.specs.Prelude.{IsTrue}
use lib.Utf8.{encode}
use Rattle.std.specs.Str.{is_utf8, chars}
use Rattle.wh_checking.proofs.meta.format_row.Goals as goal

is_text : is_utf8 (codes "format") ≡ true
unfolding is_utf8 chars encode
is_text = refl

pub returns-clause-valid : goal.returns-clause-valid
returns-clause-valid c = subst (λ text. IsTrue (is_utf8 text)) (sym c.in_ok-new.ensures) is_text
