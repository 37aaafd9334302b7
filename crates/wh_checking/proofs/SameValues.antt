-- Columns of integers, texts and blobs are the same where a comparison of their values says so.
use Rattle.std.proofs.Common.{◌≡◌, Bool, true, false, [], ◌∷◌, refl, sym, ap, ◌∙◌}
use Rattle.std.specs.List.{list_all}
use Rattle.std.proofs.lemmas.Bool.{and_parts}
use Rattle.std.proofs.lemmas.Bool.Decides.{Decides-int_eq}
use Rattle.std.proofs.lemmas.Slice.Eq.{bytes_eq-Decides}
use Rattle.sqlite_value.specs.declared.value.Value.{Value}
use Rattle.sqlite_value.specs.declared.value.Value.TheVariants.{Null, Int, Real, Text, Blob}
use Rattle.sqlite.specs.Order.{Row}
use Rattle.wh_rows.specs.Holds.{Layout}
use Rattle.wh_rows.specs.Keyed.{is_plain}
use Rattle.wh_checking.specs.Alike.{same_value, same_values, AreAlike}

same_is : (v w : Value) → same_value v w ≡ true → v ≡ w
same_is (Int m) (Int n) h = ap Int ((Decides-int_eq m n).0 h)
same_is (Text s) (Text t) h = ap Text ((bytes_eq-Decides s t).0 h)
same_is (Blob s) (Blob t) h = ap Blob ((bytes_eq-Decides s t).0 h)
same_is Null w h = absurd cc
same_is (Real x) w h = absurd cc
same_is (Int m) Null h = absurd cc
same_is (Int m) (Real x) h = absurd cc
same_is (Int m) (Text t) h = absurd cc
same_is (Int m) (Blob t) h = absurd cc
same_is (Text s) Null h = absurd cc
same_is (Text s) (Int n) h = absurd cc
same_is (Text s) (Real x) h = absurd cc
same_is (Text s) (Blob t) h = absurd cc
same_is (Blob s) Null h = absurd cc
same_is (Blob s) (Int n) h = absurd cc
same_is (Blob s) (Real x) h = absurd cc
same_is (Blob s) (Text t) h = absurd cc

same_itself : (v : Value) → is_plain v ≡ true → same_value v v ≡ true
same_itself Null h = absurd cc
same_itself (Int n) h = (Decides-int_eq n n).1 refl
same_itself (Real x) h = absurd cc
same_itself (Text t) h = (bytes_eq-Decides t t).1 refl
same_itself (Blob t) h = (bytes_eq-Decides t t).1 refl

all_same : (vs ws : Row) → same_values vs ws ≡ true → vs ≡ ws
all_same [] [] h = refl
all_same [] (w ∷ ws) h = absurd cc
all_same (v ∷ vs) [] h = absurd cc
all_same (v ∷ vs) (w ∷ ws) h =
    let parts = and_parts (same_value v w) (same_values vs ws) h in
    let first = same_is v w parts.0 in
    let rest = all_same vs ws parts.1 in
    λ i. first i ∷ rest i

row_itself : (vs : Row) → list_all is_plain vs ≡ true → same_values vs vs ≡ true
row_itself [] plain = refl
row_itself (v ∷ vs) plain =
    let parts = and_parts (is_plain v) (list_all is_plain vs) plain in
    rw (same_itself v parts.0, row_itself vs parts.1) refl

pub alike : {K V : Type 0} (layout : Layout K V) (v w : V) (vs ws : Row) (result : Bool) → vs ≡ layout.encode v → ws ≡ layout.encode w → list_all is_plain (layout.encode v) ≡ true → result ≡ same_values vs ws → AreAlike layout v w result
alike layout v w vs ws true first second plain is = sym first ∙ all_same vs ws (sym is) ∙ second
alike layout v w vs ws false first second plain is = λ same.
    let all : ws ≡ vs = second ∙ sym same ∙ sym first in
    let yes : same_values vs vs ≡ true = row_itself vs (ap (list_all is_plain) first ∙ plain) in
    absurd (let no : false ≡ true = is ∙ ap (same_values vs) all ∙ yes in cc)
