-- Lines of dumps on literals.
use Rattle.std.proofs.Common.{◌≡◌, pos, negsuc, true, [], ◌∷◌, refl}
use Rattle.std.specs.Prelude.{codes}
use Rattle.std.specs.Fmt.{digits}
use Rattle.csv.specs.Writing.{escaped, fields_text, is_blank}
use Rattle.hex.specs.Hex.{encode_with}
use Rattle.wh_day.proofs.OnLiterals.{day_on_literals}
use Rattle.wh_day.specs.Calendar.{date_row}
use Rattle.wh_policy.specs.declared.attribute.Dim.TheVariants.{Customer}
use Rattle.wh_rows.specs.Rows as row
use Rattle.wh_report.specs.Dump.{header_line, row_line}

titles_of_meta : header_line row.meta ≡ codes "name,value\n"
unfolding escaped fields_text is_blank
titles_of_meta = refl

titles_of_products : header_line row.product ≡ codes "surrogate,durable,natural,from_day,to_day,is_current,a1,a2,a3,a4,a5,a6,b1,b2,b3,b4,b5,b6,profile_now\n"
unfolding escaped fields_text is_blank
titles_of_products = refl

titles_of_facts : header_line row.fact ≡ codes "ticket,line,day,store_key,product_key,customer_key,store_durable,product_durable,customer_durable,profile,quantity,amount,cost\n"
unfolding escaped fields_text is_blank
titles_of_facts = refl

a_limit : row_line row.meta (record { name = codes "facts_max"; value = pos 1000000 }) ≡ codes "facts_max,1000000\n"
unfolding escaped fields_text is_blank digits
a_limit = refl

-- whatever a file holds there
a_name_to_quote : row_line row.meta (record { name = codes "a,\"b\""; value = negsuc 0 }) ≡ codes "\"a,\"\"b\"\"\",-1\n"
unfolding escaped fields_text is_blank digits
a_name_to_quote = refl

a_command : row_line row.command (record { number = 2; id = codes "p0"; kind = codes "product"; bytes = 239 ∷ 10 ∷ 0 ∷ []; records = 0; placeholders = 0 }) ≡ codes "2,p0,product,ef0a00,0,0\n"
unfolding escaped fields_text is_blank digits encode_with
a_command = refl

a_member : row_line row.member (record { dim = Customer; durable = 1; natural = codes "C9"; opening = 1 }) ≡ codes "3,1,C9,1\n"
unfolding escaped fields_text is_blank digits
a_member = refl

a_product : row_line row.product (record {
  surrogate = 3;
  durable = 1;
  natural = codes "P1";
  from_day = 20240201;
  to_day = 99991231;
  is_current = true;
  a = codes "Cola 1l" ∷ codes "Bolt" ∷ codes "Drinks" ∷ codes "Grocery" ∷ codes "2019" ∷ codes "North" ∷ [];
  b = [] ∷ [] ∷ codes "Drinks" ∷ [] ∷ [] ∷ codes "(none)" ∷ [];
  profile_now = 0;
})
    ≡ codes "3,1,P1,20240201,99991231,1,Cola 1l,Bolt,Drinks,Grocery,2019,North,,,Drinks,,,(none),0\n"
unfolding escaped fields_text is_blank digits
a_product = refl

a_profile : row_line row.profile (record { number = 2; values = [] ∷ codes "30-39" ∷ codes "high" ∷ [] ∷ [] ∷ [] ∷ [] }) ≡ codes "2,,30-39,high,,,\n"
unfolding escaped fields_text is_blank digits
a_profile = refl

a_leap_day : row_line row.calendar (date_row [] 20240229) ≡ codes "20240229,2024-02-29,2024,1,2,29,60,4,Thursday,0,(none)\n"
unfolding day_on_literals escaped fields_text is_blank digits
a_leap_day = refl

a_fact : row_line row.fact (record { ticket = codes "T1"; line = 1; day = 20240205; keys = record { store_key = 1; product_key = 3; customer_key = 0; profile = 0 }; store_durable = 1; product_durable = 1; customer_durable = 0; quantity = negsuc 1; amount = negsuc 499; cost = pos 320; discount = 0 })
    ≡ codes "T1,1,20240205,1,3,0,1,1,0,0,-2,-500,320\n"
unfolding escaped fields_text is_blank digits
a_fact = refl
