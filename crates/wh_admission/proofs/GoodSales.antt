-- Each sale of a batch that is read is good, and no two of them have one line.
use Rattle.std.proofs.Common.{◌≡◌, ℕ, zero, suc, ◌^◌, ◌≤◌, ◌<◌, ℤ, pos, neg_ℤ, Bool, true, false, cond, List, [], ◌∷◌, length, map, take, Option, Some, Result, Ok, Err, refl, sym, ap, ◌∙◌, subst, arith}
use Rattle.std.specs.Prelude.{unsigned_abs}
use Rattle.std.specs.List.{AllByRecursion, IsDistinct}
use Rattle.std.proofs.lemmas.Bool.{le-leb}
use Rattle.std.proofs.lemmas.List.{length-map}
use Rattle.wh_day.specs.Day.{is_day, read_day}
use Rattle.wh_day.proofs.Texts.{text_is}
use Rattle.wh_policy.specs.declared.attribute.Dim.{Dim}
use Rattle.wh_policy.specs.declared.attribute.Dim.TheVariants.{Product, Store, Customer}
use Rattle.wh_policy.specs.declared.policy.Policy.{Policy}
use Rattle.wh_policy.specs.declared.record.SaleRecord.{SaleRecord}
use Rattle.wh_batch.specs.Batch.{is_same_key}
use Rattle.wh_batch.specs.Fields.{key_of, customer_of, day_of}
use Rattle.wh_batch.specs.Grammar.{WritesDigits, WritesLine, WritesHundredths, WritesSigned}
use Rattle.wh_batch.specs.Layouts.{undiscounted, discount_in, tenth, sale_record, sale_key, sales_layout, sale_records}
use Rattle.wh_batch.specs.Numbers.{read_hundredths, read_line, read_quantity, read_amount, line_of, quantity_of, amount_of}
use Rattle.wh_batch.specs.declared.fault.FaultKind.{FaultKind}
use Rattle.wh_batch.specs.declared.fault.FaultKind.TheVariants.{BadDay, BadNumber, WrongLength}
use Rattle.wh_policy.specs.declared.format.Format.{Format}
use Rattle.wh_policy.specs.declared.format.Format.TheVariants.{One, Two}
use Rattle.wh_batch.proofs.GoodLemmas.{bind_ok, reads_batches}
use Rattle.wh_batch.proofs.GrammarLemmas.{reads_hundredths, reads_lines, reads_quantities, reads_amounts}
use Rattle.wh_batch.proofs.NumberLemmas.{digits-bound}
use Rattle.wh_history.specs.Accepted.{member_of_sale}
use Rattle.wh_history.proofs.Basics.{some_is}
use Rattle.wh_rows.specs.Types.{is_discount, is_key, is_line, is_measure}
use Rattle.wh_model.specs.Sound.{IsGoodSale, same_line}
use Rattle.wh_admission.proofs.GoodRecords.{read_ok, good_key, all_read}
use Rattle.wh_model.proofs.SameLines.{same_either}

-- ---- the numbers

digits_below : (least most : ℕ) (text : List ℕ) (n : ℕ) → WritesDigits least most text n → n < 10 ^ most
digits_below least most text n w = subst (λ m. m < 10 ^ most) w.value (digits-bound most text w.digits w.few)

good_line : (field : List ℕ) (n : ℕ) → line_of field ≡ Ok n → is_line n ≡ true
good_line field n h =
    let line : WritesLine field n = (reads_lines field n).0 (read_ok BadNumber (read_line field) n h) in
    let below = digits_below 1 4 field n line.digits in
    rw (le-leb 1 n line.positive, le-leb n 9999 (omega arith)) refl

abs_minus : (n : ℕ) → unsigned_abs (neg_ℤ (pos n)) ≡ n
abs_minus zero = refl
abs_minus (suc n) = refl

-- a number up to the most, with a minus or without
signed_measure : (most : ℕ) (Writes : List ℕ → ℕ → Type 0) → ((text : List ℕ) (n : ℕ) → Writes text n → n ≤ most) → (text : List ℕ) (x : ℤ) → WritesSigned Writes text x → is_measure most x ≡ true
signed_measure most Writes up _ _ (WritesSigned.plain text n w) = le-leb n most (up text n w)
signed_measure most Writes up _ _ (WritesSigned.minus text n w) = rw (abs_minus n) (le-leb n most (up text n w))

few_pieces : (text : List ℕ) (n : ℕ) → WritesDigits 1 4 text n → n ≤ 9999
few_pieces text n w = let below = digits_below 1 4 text n w in omega arith

good_quantity : (field : List ℕ) (x : ℤ) → quantity_of field ≡ Ok x → is_measure 9999 x ≡ true
good_quantity field x h = signed_measure 9999 (WritesDigits 1 4) few_pieces field x ((reads_quantities field x).0 (read_ok BadNumber (read_quantity field) x h))

few_hundredths : (text : List ℕ) (n : ℕ) → WritesHundredths text n → n ≤ 999999999
few_hundredths _ _ (WritesHundredths.whole text n w) = let below = digits_below 1 7 text n w in omega arith
few_hundredths _ _ (WritesHundredths.tenths text part n m w v) = let below = digits_below 1 7 text n w in let last = digits_below 1 1 part m v in omega arith
few_hundredths _ _ (WritesHundredths.hundredths text part n m w v) = let below = digits_below 1 7 text n w in let last = digits_below 2 2 part m v in omega arith

good_amount : (field : List ℕ) (x : ℤ) → amount_of field ≡ Ok x → is_measure 999999999 x ≡ true
good_amount field x h = signed_measure 999999999 WritesHundredths few_hundredths field x ((reads_amounts field x).0 (read_ok BadNumber (read_amount field) x h))

-- ---- the members and the day

sale_day : (field : List ℕ) (number : ℕ) → day_of field ≡ Ok number → is_day number ≡ true
unfolding day_of
sale_day field number h = (text_is field number (read_ok BadDay (read_day field) number h)).0

customer_key : (field : List ℕ) (customer : Option (List ℕ)) → customer_of field ≡ Ok customer → (natural : List ℕ) → customer ≡ Some natural → is_key 32 natural ≡ true
unfolding customer_of
customer_key [] customer h natural is = absurd cc
customer_key (first ∷ rest) customer h natural is =
    let (key, read, more) = bind_ok (key_of 32 (first ∷ rest)) _ customer h in
    let same : key ≡ natural = cc in
    subst (λ text. is_key 32 text ≡ true) same (good_key 32 (first ∷ rest) key read)

-- the members that a sale mentions have well formed keys
named_well : (s : SaleRecord) → is_key 32 s.store ≡ true → is_key 32 s.product ≡ true → ((natural : List ℕ) → s.customer ≡ Some natural → is_key 32 natural ≡ true)
    → (dim : Dim) (natural : List ℕ) → member_of_sale dim s ≡ Some natural → is_key 32 natural ≡ true
named_well s store product customer Product natural is = subst (λ text. is_key 32 text ≡ true) (some_is s.product natural is) product
named_well s store product customer Store natural is = subst (λ text. is_key 32 text ≡ true) (some_is s.store natural is) store
named_well s store product customer Customer natural is = customer natural is

-- ---- a sale

abbrev sale_read : SaleRecord → Result SaleRecord FaultKind
sale_read s = Ok s

read_is : (x y : SaleRecord) → sale_read x ≡ sale_read y → x ≡ y
read_is x y h = cc

good_undiscounted : (fields : List (List ℕ)) (s : SaleRecord) → undiscounted fields ≡ Ok s → IsGoodSale s
unfolding undiscounted
good_undiscounted (ticket ∷ line ∷ day ∷ store ∷ product ∷ customer ∷ quantity ∷ amount ∷ cost ∷ []) s h =
    let (ticket_key, ticket_is, h1) = bind_ok (key_of 20 ticket) _ s h in
    let (number, line_is, h2) = bind_ok (line_of line) _ s h1 in
    let (sold_on, day_is, h3) = bind_ok (day_of day) _ s h2 in
    let (store_key, store_is, h4) = bind_ok (key_of 32 store) _ s h3 in
    let (product_key, product_is, h5) = bind_ok (key_of 32 product) _ s h4 in
    let (customer_is, customer_read, h6) = bind_ok (customer_of customer) _ s h5 in
    let (pieces, quantity_is, h7) = bind_ok (quantity_of quantity) _ s h6 in
    let (paid, amount_is, h8) = bind_ok (amount_of amount) _ s h7 in
    let (spent, cost_is, h9) = bind_ok (amount_of cost) _ s h8 in
    let made : SaleRecord = record { ticket = ticket_key; line = number; day = sold_on; store = store_key; product = product_key; customer = customer_is; quantity = pieces; amount = paid; cost = spent; discount = 0 } in
    let e : made ≡ s = read_is made s h9 in
    rw (← e) (record {
      ticket = good_key 20 ticket ticket_key ticket_is;
      line = good_line line number line_is;
      day = sale_day day sold_on day_is;
      members = named_well made (good_key 32 store store_key store_is) (good_key 32 product product_key product_is) (customer_key customer customer_is customer_read);
      quantity = good_quantity quantity pieces quantity_is;
      amount = good_amount amount paid amount_is;
      cost = good_amount cost spent cost_is;
      discount = refl;
    })
good_undiscounted _ s h = absurd cc

not_wrong : (wrong : Bool) (read : Result SaleRecord FaultKind) (s : SaleRecord) → cond wrong (Err WrongLength) read ≡ Ok s → read ≡ Ok s
not_wrong true read s h = absurd cc
not_wrong false read s h = h

-- a sale is what its nine fields say, with the discount of its format
discounted : (format : Format) (fields : List (List ℕ)) (s : SaleRecord) → sale_record format fields ≡ Ok s
    → (sale : SaleRecord) × (discount : ℕ) × (undiscounted (take 9 fields) ≡ Ok sale) × (discount_in format fields ≡ Ok discount) × (record sale { discount = discount } ≡ s)
unfolding sale_record
discounted format fields s h =
    let (sale, sale_is, rest) = bind_ok (undiscounted (take 9 fields)) _ s (not_wrong _ _ s h) in
    let (discount, discount_is, last) = bind_ok (discount_in format fields) _ s rest in
    (sale, discount, sale_is, discount_is, read_is (record sale { discount = discount }) s last)

good_discount : (format : Format) (fields : List (List ℕ)) (discount : ℕ) → discount_in format fields ≡ Ok discount → is_discount discount ≡ true
unfolding discount_in
good_discount One fields discount h = let none : 0 ≡ discount = cc in rw (← none) refl
good_discount Two fields discount h =
    let field = tenth fields in
    le-leb discount 999999999 (few_hundredths field discount ((reads_hundredths field discount).0 (read_ok BadNumber (read_hundredths field) discount h)))

-- in the first format there is none
no_discount : (fields : List (List ℕ)) (discount : ℕ) → discount_in One fields ≡ Ok discount → discount ≡ 0
unfolding discount_in
no_discount fields discount h = let none : 0 ≡ discount = cc in sym none

-- a discount names no member
same_members : (dim : Dim) (sale : SaleRecord) (discount : ℕ) → member_of_sale dim (record sale { discount = discount }) ≡ member_of_sale dim sale
same_members Product sale discount = refl
same_members Store sale discount = refl
same_members Customer sale discount = refl

good_sale : (format : Format) (fields : List (List ℕ)) (s : SaleRecord) → sale_record format fields ≡ Ok s → IsGoodSale s
good_sale format fields s h =
    let (sale, discount, sale_is, discount_is, e) = discounted format fields s h in
    let good = good_undiscounted (take 9 fields) sale sale_is in
    rw (← e) (record {
      ticket = good.ticket;
      line = good.line;
      day = good.day;
      members = λ dim natural is. good.members dim natural (sym (same_members dim sale discount) ∙ is);
      quantity = good.quantity;
      amount = good.amount;
      cost = good.cost;
      discount = good_discount format fields discount discount_is;
    })

undiscounted_sale : (fields : List (List ℕ)) (s : SaleRecord) → sale_record One fields ≡ Ok s → s.discount ≡ 0
undiscounted_sale fields s h =
    let (sale, discount, sale_is, discount_is, e) = discounted One fields s h in
    rw (← e) (no_discount fields discount discount_is)

-- ---- a batch of sales

pub good_sales : (policy : Policy) (format : Format) (bytes : List ℕ) (sales : List SaleRecord) → sale_records policy format bytes ≡ Ok sales → AllByRecursion IsGoodSale sales
unfolding sale_records
good_sales policy format bytes sales h =
    let batch = (reads_batches (sales_layout format policy.years) bytes sales).0 h in
    all_read (sale_record format) IsGoodSale (good_sale format) batch.rows sales batch.each

pub none_discounted : (policy : Policy) (bytes : List ℕ) (sales : List SaleRecord) → sale_records policy One bytes ≡ Ok sales → AllByRecursion (λ s. s.discount ≡ 0) sales
unfolding sale_records
none_discounted policy bytes sales h =
    let batch = (reads_batches (sales_layout One policy.years) bytes sales).0 h in
    all_read (sale_record One) (λ s. s.discount ≡ 0) undiscounted_sale batch.rows sales batch.each

pub few_sales : (policy : Policy) (format : Format) (bytes : List ℕ) (sales : List SaleRecord) → sale_records policy format bytes ≡ Ok sales → length sales ≤ 5000
unfolding sale_records
few_sales policy format bytes sales h =
    let layout = sales_layout format policy.years in
    let batch = (reads_batches layout bytes sales).0 h in
    let as_many : length batch.rows ≡ length sales = sym (length-map batch.rows layout.read) ∙ ap length batch.each ∙ length-map sales (λ (s : SaleRecord). Ok s) in
    omega (arith, as_many, batch.few)

none_like : (s : SaleRecord) (sales : List SaleRecord) → AllByRecursion (λ k. is_same_key (sale_key s) k ≡ false) (map sale_key sales) → AllByRecursion (λ t. same_line s t ≡ false) sales
none_like s [] all = tt
none_like s (t ∷ sales) all = (same_either s t ∙ all.0, none_like s sales all.1)

each_once : (sales : List SaleRecord) → IsDistinct is_same_key (map sale_key sales) → IsDistinct same_line sales
unfolding IsDistinct
each_once [] once = tt
each_once (s ∷ sales) once = (none_like s sales once.0, each_once sales once.1)

pub sales_once : (policy : Policy) (format : Format) (bytes : List ℕ) (sales : List SaleRecord) → sale_records policy format bytes ≡ Ok sales → IsDistinct same_line sales
unfolding sale_records
sales_once policy format bytes sales h = let batch = (reads_batches (sales_layout format policy.years) bytes sales).0 h in each_once sales batch.distinct
