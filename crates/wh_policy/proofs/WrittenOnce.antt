-- A table writes one policy.
use Rattle.std.proofs.Common.{◌≡◌, ℕ, ◌+◌, ◌/◌, ◌%◌, pos, unsigned_abs, List, [], ◌∷◌, get_or, Option, Some, None, codes, refl, sym, ap, ◌∙◌, arith}
use Rattle.std.specs.List.{AllZip}
use Rattle.std.proofs.lemmas.Option.{same_Some}
use Rattle.toml.specs.Data.{Data, Members, get_member}
use Rattle.wh_day.specs.Day.{day_text, year_of, month_of, day_of_month}
use Rattle.wh_day.specs.declared.holiday.Holiday.{Holiday}
use Rattle.wh_policy.specs.declared.attribute.Attribute.{Attribute}
use Rattle.wh_policy.specs.declared.attribute.AttributeType.{AttributeType}
use Rattle.wh_policy.specs.declared.attribute.Dim.{Dim}
use Rattle.wh_policy.specs.declared.attribute.Dim.TheVariants.{Product, Store, Customer}
use Rattle.wh_policy.specs.declared.policy.Policy.{Policy}
use Rattle.wh_policy.specs.declared.policy.Years.{Years}
use Rattle.wh_policy.specs.Policy.{policy_attributes}
use Rattle.wh_policy.specs.Types.{attribute_type_number, attribute_type_of_number}
use Rattle.wh_policy.specs.Written.{WritesYears, WritesAttribute, WritesHoliday, WritesHolidays, Writes}
use Rattle.wh_policy.proofs.TypeLemmas.{attribute_type_of_number-again}
use Rattle.wh_policy.proofs.WrittenLemmas.{string_same, integer_same, arrays_same}

-- a text is that of one day
digit_at : (m n : ℕ) (k : ℕ) → day_text m ≡ day_text n → get_or (day_text m) k 0 ≡ get_or (day_text n) k 0
digit_at m n k e = ap (λ (xs : List ℕ). get_or xs k 0) e

day_text_same : (m n : ℕ) → day_text m ≡ day_text n → m ≡ n
day_text_same m n e =
    let y1 : 48 + year_of m / 100 / 10 ≡ 48 + year_of n / 100 / 10 = digit_at m n 0 e in
    let y2 : 48 + year_of m / 100 % 10 ≡ 48 + year_of n / 100 % 10 = digit_at m n 1 e in
    let y3 : 48 + year_of m % 100 / 10 ≡ 48 + year_of n % 100 / 10 = digit_at m n 2 e in
    let y4 : 48 + year_of m % 100 % 10 ≡ 48 + year_of n % 100 % 10 = digit_at m n 3 e in
    let m1 : 48 + month_of m / 10 ≡ 48 + month_of n / 10 = digit_at m n 5 e in
    let m2 : 48 + month_of m % 10 ≡ 48 + month_of n % 10 = digit_at m n 6 e in
    let d1 : 48 + day_of_month m / 10 ≡ 48 + day_of_month n / 10 = digit_at m n 8 e in
    let d2 : 48 + day_of_month m % 10 ≡ 48 + day_of_month n % 10 = digit_at m n 9 e in
    let century : year_of m / 100 ≡ year_of n / 100 = omega (arith, y1, y2) in
    let year : year_of m % 100 ≡ year_of n % 100 = omega (arith, y3, y4) in
    let month : month_of m ≡ month_of n = omega (arith, m1, m2) in
    let day : day_of_month m ≡ day_of_month n = omega (arith, d1, d2) in
    omega (arith, century, year, month, day)

zip-once : {A B : Type 0} (R : A → B → Type 0) → ((x : A) (y z : B) → R x y → R x z → y ≡ z) → (xs : List A) (ys zs : List B) → AllZip R xs ys → AllZip R xs zs → ys ≡ zs
zip-once R f [] [] [] h i = refl
zip-once R f [] [] (z ∷ zs) h i = absurd i
zip-once R f [] (y ∷ ys) zs h i = absurd h
zip-once R f (x ∷ xs) [] zs h i = absurd h
zip-once R f (x ∷ xs) (y ∷ ys) [] h i = absurd i
zip-once R f (x ∷ xs) (y ∷ ys) (z ∷ zs) h i = rw (f x y z h.0 i.0, zip-once R f xs ys zs h.1 i.1) refl

type_same : (k l : AttributeType) → attribute_type_number k ≡ attribute_type_number l → k ≡ l
type_same k l e = same_Some _ _ (sym (attribute_type_of_number-again k) ∙ ap (λ (n : ℕ). attribute_type_of_number (pos n)) e ∙ attribute_type_of_number-again l)

attribute_once : (t : Members) (a b : Attribute) → WritesAttribute t a → WritesAttribute t b → a ≡ b
attribute_once t a b x y =
    let name : a.name ≡ b.name = string_same _ _ (same_Some _ _ (sym x.name ∙ y.name)) in
    let kind : a.kind ≡ b.kind = type_same a.kind b.kind (ap unsigned_abs (integer_same _ _ (same_Some _ _ (sym x.kind ∙ y.kind)))) in
    let both : record { name = a.name; kind = a.kind } ≡ record { name = b.name; kind = b.kind } = rw (name, kind) refl in
    both

holiday_once : (t : Members) (g h : Holiday) → WritesHoliday t g → WritesHoliday t h → g ≡ h
holiday_once t g h x y =
    let day : g.day ≡ h.day = day_text_same g.day h.day (string_same _ _ (same_Some _ _ (sym x.day ∙ y.day))) in
    let name : g.name ≡ h.name = string_same _ _ (same_Some _ _ (sym x.name ∙ y.name)) in
    let both : record { day = g.day; name = g.name } ≡ record { day = h.day; name = h.name } = rw (day, name) refl in
    both

pub years_once : (ms : Members) (y z : Years) → WritesYears ms y → WritesYears ms z → y ≡ z
years_once ms y z a b =
    let first : y.first ≡ z.first = ap unsigned_abs (integer_same _ _ (same_Some _ _ (sym a.first ∙ b.first))) in
    let last : y.last ≡ z.last = ap unsigned_abs (integer_same _ _ (same_Some _ _ (sym a.last ∙ b.last))) in
    let both : record { first = y.first; last = y.last } ≡ record { first = z.first; last = z.last } = rw (first, last) refl in
    both

dimension_once : (ms : Members) (p q : Policy) → Writes ms p → Writes ms q → (dim : Dim) → policy_attributes p dim ≡ policy_attributes q dim
dimension_once ms p q x y dim =
    let (ts, has, zip) = x.attributes dim in
    let (us, has', zip') = y.attributes dim in
    let same = arrays_same _ ts us refl (same_Some _ _ (sym has ∙ has')) in
    zip-once WritesAttribute attribute_once us _ _ (rw same at zip) zip'

holidays_once : (found : Option Data) (gs hs : List Holiday) → WritesHolidays found gs → WritesHolidays found hs → gs ≡ hs
holidays_once None gs hs x y = x ∙ sym y
holidays_once (Some content) gs hs x y = zip-once WritesHoliday holiday_once y.0 gs hs (rw (arrays_same content x.0 y.0 x.1 y.1) at x.2) y.2

pub writes_once : (ms : Members) (p q : Policy) → Writes ms p → Writes ms q → p ≡ q
writes_once ms p q x y =
    let product : p.product ≡ q.product = dimension_once ms p q x y Product in
    let store : p.store ≡ q.store = dimension_once ms p q x y Store in
    let customer : p.customer ≡ q.customer = dimension_once ms p q x y Customer in
    let years : p.years ≡ q.years = years_once ms p.years q.years x.years y.years in
    let holidays : p.holidays ≡ q.holidays = holidays_once (get_member (codes "holiday") ms) p.holidays q.holidays x.holidays y.holidays in
    let all : record { product = p.product; store = p.store; customer = p.customer; years = p.years; holidays = p.holidays }
    ≡ record { product = q.product; store = q.store; customer = q.customer; years = q.years; holidays = q.holidays } = rw (product, store, customer, years, holidays) refl in
    all
