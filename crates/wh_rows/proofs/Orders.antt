-- The orders of the keys.
use Rattle.std.proofs.Common.{◌≡◌, refl}
use Rattle.std.specs.Ordering.{nat_cmp}
use Rattle.std.specs.Cmp.{IsTotalOrder, on_total, then_total}
use Rattle.std.proofs.lemmas.Cmp.{nat_cmp_total}
use Rattle.std.specs.Cmp.Lexicographic.{slice_cmp, nat_list_cmp_total}
use Rattle.std.specs.FinMap.{IsAntisymmetric, nat_cmp-IsAntisymmetric, slice_cmp-IsAntisymmetric}
use Rattle.wh_policy.specs.declared.attribute.Dim.{Dim}
use Rattle.wh_policy.specs.declared.attribute.Dim.TheVariants.{Product, Store, Customer}
use Rattle.wh_rows.specs.Types.{dim_number}
use Rattle.wh_rows.specs.Rows.{MemberKey, ChangeKey, LineKey, member_cmp, change_cmp, line_cmp}
use Rattle.wh_rows.proofs.Keys.{then_tied}

pub text_cmp-IsAntisymmetric : IsAntisymmetric (slice_cmp nat_cmp)
text_cmp-IsAntisymmetric = slice_cmp-IsAntisymmetric nat_cmp-IsAntisymmetric

pub dim_once : (a b : Dim) → dim_number a ≡ dim_number b → a ≡ b
dim_once Product Product h = refl
dim_once Product Store h = absurd (cc)
dim_once Product Customer h = absurd (cc)
dim_once Store Product h = absurd (cc)
dim_once Store Store h = refl
dim_once Store Customer h = absurd (cc)
dim_once Customer Product h = absurd (cc)
dim_once Customer Store h = absurd (cc)
dim_once Customer Customer h = refl

pub member_cmp_total : IsTotalOrder member_cmp
member_cmp_total = then_total (on_total (λ (k : MemberKey). dim_number k.dim) nat_cmp_total) (on_total (λ (k : MemberKey). k.durable) nat_cmp_total)

pub member_cmp-IsAntisymmetric : IsAntisymmetric member_cmp
member_cmp-IsAntisymmetric x y h =
    let both = then_tied (nat_cmp (dim_number x.dim) (dim_number y.dim)) (nat_cmp x.durable y.durable) h in
    let dim : x.dim ≡ y.dim = dim_once x.dim y.dim (nat_cmp-IsAntisymmetric (dim_number x.dim) (dim_number y.dim) both.0) in
    let durable : x.durable ≡ y.durable = nat_cmp-IsAntisymmetric x.durable y.durable both.1 in
    λ i. record { dim = dim i; durable = durable i }

pub change_cmp_total : IsTotalOrder change_cmp
change_cmp_total = then_total (on_total (λ (k : ChangeKey). k.command) nat_cmp_total) (on_total (λ (k : ChangeKey). k.place) nat_cmp_total)

pub change_cmp-IsAntisymmetric : IsAntisymmetric change_cmp
change_cmp-IsAntisymmetric x y h =
    let both = then_tied (nat_cmp x.command y.command) (nat_cmp x.place y.place) h in
    let command : x.command ≡ y.command = nat_cmp-IsAntisymmetric x.command y.command both.0 in
    let place : x.place ≡ y.place = nat_cmp-IsAntisymmetric x.place y.place both.1 in
    λ i. record { command = command i; place = place i }

pub line_cmp_total : IsTotalOrder line_cmp
line_cmp_total = then_total (on_total (λ (k : LineKey). k.ticket) nat_list_cmp_total) (on_total (λ (k : LineKey). k.line) nat_cmp_total)

pub line_cmp-IsAntisymmetric : IsAntisymmetric line_cmp
line_cmp-IsAntisymmetric x y h =
    let both = then_tied (slice_cmp nat_cmp x.ticket y.ticket) (nat_cmp x.line y.line) h in
    let ticket : x.ticket ≡ y.ticket = text_cmp-IsAntisymmetric x.ticket y.ticket both.0 in
    let line : x.line ≡ y.line = nat_cmp-IsAntisymmetric x.line y.line both.1 in
    λ i. record { ticket = ticket i; line = line i }
