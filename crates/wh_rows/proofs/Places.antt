-- The tables in their places.
use Rattle.std.proofs.Common.{refl}
use Rattle.std.proofs.lemmas.Cmp.{nat_cmp_total}
use Rattle.std.specs.Cmp.Lexicographic.{nat_list_cmp_total}
use Rattle.std.specs.FinMap.{nat_cmp-IsAntisymmetric}
use Rattle.wh_policy.specs.declared.attribute.Dim.TheVariants.{Product, Store, Customer}
use Rattle.wh_rows.specs.Rows.{encode_meta, encode_command, encode_member, encode_change, encode_dimension, encode_profile, encode_date, encode_fact, encode_fact2, encode_void, is_meta, is_command, is_member, is_change, is_dimension, is_profile, is_date, is_fact, is_fact2, is_void}
use Rattle.wh_rows.specs.Stored.{read_meta, read_command, read_member, read_change, read_dimension, read_profile, read_date, read_fact, read_fact2, read_void}
use Rattle.wh_rows.proofs.Exact.{once_read, meta_complete, command_complete, member_complete, change_complete, dimension_complete, profile_complete, date_complete, fact_complete, fact2_complete, void_complete}
use Rattle.wh_rows.specs.declared.table.Table.TheVariants.{Meta, Command, Member, Change, Product as OfProduct, Store as OfStore, Customer as OfCustomer, Profile, Calendar, Fact, Fact2, Void}
use Rattle.wh_rows.specs.Names.{is_there}
use Rattle.wh_rows.specs.Schema.{schema_in}
use Rattle.wh_rows.specs.Holds.{IsRising}
use Rattle.wh_rows.specs.Place.{IsPlaced}
use Rattle.wh_rows.specs.Rows as row
use Rattle.wh_rows.proofs.Orders.{text_cmp-IsAntisymmetric, member_cmp_total, member_cmp-IsAntisymmetric, change_cmp_total, change_cmp-IsAntisymmetric, line_cmp_total, line_cmp-IsAntisymmetric}
use Rattle.wh_rows.proofs.Formats.{absent_in, keyed_in, valid_in}
use Rattle.wh_rows.proofs.Others.{at_place, meta_changed, command_changed, member_changed, change_changed, product_changed, store_changed, customer_changed, profile_changed, calendar_changed, fact_changed, fact2_changed, void_changed, holds_in, rising_in}

pub meta : IsPlaced row.meta (λ t. t.meta) (λ m t. record t { meta = m }) (is_there Meta)
meta = record {
  once = once_read read_meta encode_meta is_meta meta_complete;
  total = nat_list_cmp_total;
  same = text_cmp-IsAntisymmetric;
  held = λ db t stored there. stored.meta;
  absent = λ db t stored none. absurd (cc);
  keyed = λ db t stored. stored.meta.keyed;
  valid = λ db t stored. stored.meta.valid;
  rising = λ db t stored there. at_place (λ table. IsRising (db.trees table.tree)) (schema_in t.format).tables 0 row.meta.table refl stored.rising;
  changed = meta_changed;
  same_format = λ m t. refl;
  put_in = λ m t. refl;
  put_again = λ m n t. refl;
  put_back = λ t. refl;
}

pub command : IsPlaced row.command (λ t. t.command) (λ m t. record t { command = m }) (is_there Command)
command = record {
  once = once_read read_command encode_command is_command command_complete;
  total = nat_cmp_total;
  same = nat_cmp-IsAntisymmetric;
  held = λ db t stored there. stored.command;
  absent = λ db t stored none. absurd (cc);
  keyed = λ db t stored. stored.command.keyed;
  valid = λ db t stored. stored.command.valid;
  rising = λ db t stored there. at_place (λ table. IsRising (db.trees table.tree)) (schema_in t.format).tables 1 row.command.table refl stored.rising;
  changed = command_changed;
  same_format = λ m t. refl;
  put_in = λ m t. refl;
  put_again = λ m n t. refl;
  put_back = λ t. refl;
}

pub member : IsPlaced row.member (λ t. t.member) (λ m t. record t { member = m }) (is_there Member)
member = record {
  once = once_read read_member encode_member is_member member_complete;
  total = member_cmp_total;
  same = member_cmp-IsAntisymmetric;
  held = λ db t stored there. stored.member;
  absent = λ db t stored none. absurd (cc);
  keyed = λ db t stored. stored.member.keyed;
  valid = λ db t stored. stored.member.valid;
  rising = λ db t stored there. at_place (λ table. IsRising (db.trees table.tree)) (schema_in t.format).tables 2 row.member.table refl stored.rising;
  changed = member_changed;
  same_format = λ m t. refl;
  put_in = λ m t. refl;
  put_again = λ m n t. refl;
  put_back = λ t. refl;
}

pub change : IsPlaced row.change (λ t. t.change) (λ m t. record t { change = m }) (is_there Change)
change = record {
  once = once_read read_change encode_change is_change change_complete;
  total = change_cmp_total;
  same = change_cmp-IsAntisymmetric;
  held = λ db t stored there. stored.change;
  absent = λ db t stored none. absurd (cc);
  keyed = λ db t stored. stored.change.keyed;
  valid = λ db t stored. stored.change.valid;
  rising = λ db t stored there. at_place (λ table. IsRising (db.trees table.tree)) (schema_in t.format).tables 3 row.change.table refl stored.rising;
  changed = change_changed;
  same_format = λ m t. refl;
  put_in = λ m t. refl;
  put_again = λ m n t. refl;
  put_back = λ t. refl;
}

pub product : IsPlaced row.product (λ t. t.product) (λ m t. record t { product = m }) (is_there OfProduct)
product = record {
  once = once_read (read_dimension Product) encode_dimension (is_dimension Product) (dimension_complete Product);
  total = nat_cmp_total;
  same = nat_cmp-IsAntisymmetric;
  held = λ db t stored there. stored.product;
  absent = λ db t stored none. absurd (cc);
  keyed = λ db t stored. stored.product.keyed;
  valid = λ db t stored. stored.product.valid;
  rising = λ db t stored there. at_place (λ table. IsRising (db.trees table.tree)) (schema_in t.format).tables 4 row.product.table refl stored.rising;
  changed = product_changed;
  same_format = λ m t. refl;
  put_in = λ m t. refl;
  put_again = λ m n t. refl;
  put_back = λ t. refl;
}

pub store : IsPlaced row.store (λ t. t.store) (λ m t. record t { store = m }) (is_there OfStore)
store = record {
  once = once_read (read_dimension Store) encode_dimension (is_dimension Store) (dimension_complete Store);
  total = nat_cmp_total;
  same = nat_cmp-IsAntisymmetric;
  held = λ db t stored there. stored.store;
  absent = λ db t stored none. absurd (cc);
  keyed = λ db t stored. stored.store.keyed;
  valid = λ db t stored. stored.store.valid;
  rising = λ db t stored there. at_place (λ table. IsRising (db.trees table.tree)) (schema_in t.format).tables 5 row.store.table refl stored.rising;
  changed = store_changed;
  same_format = λ m t. refl;
  put_in = λ m t. refl;
  put_again = λ m n t. refl;
  put_back = λ t. refl;
}

pub customer : IsPlaced row.customer (λ t. t.customer) (λ m t. record t { customer = m }) (is_there OfCustomer)
customer = record {
  once = once_read (read_dimension Customer) encode_dimension (is_dimension Customer) (dimension_complete Customer);
  total = nat_cmp_total;
  same = nat_cmp-IsAntisymmetric;
  held = λ db t stored there. stored.customer;
  absent = λ db t stored none. absurd (cc);
  keyed = λ db t stored. stored.customer.keyed;
  valid = λ db t stored. stored.customer.valid;
  rising = λ db t stored there. at_place (λ table. IsRising (db.trees table.tree)) (schema_in t.format).tables 6 row.customer.table refl stored.rising;
  changed = customer_changed;
  same_format = λ m t. refl;
  put_in = λ m t. refl;
  put_again = λ m n t. refl;
  put_back = λ t. refl;
}

pub profile : IsPlaced row.profile (λ t. t.profile) (λ m t. record t { profile = m }) (is_there Profile)
profile = record {
  once = once_read read_profile encode_profile is_profile profile_complete;
  total = nat_cmp_total;
  same = nat_cmp-IsAntisymmetric;
  held = λ db t stored there. stored.profile;
  absent = λ db t stored none. absurd (cc);
  keyed = λ db t stored. stored.profile.keyed;
  valid = λ db t stored. stored.profile.valid;
  rising = λ db t stored there. at_place (λ table. IsRising (db.trees table.tree)) (schema_in t.format).tables 7 row.profile.table refl stored.rising;
  changed = profile_changed;
  same_format = λ m t. refl;
  put_in = λ m t. refl;
  put_again = λ m n t. refl;
  put_back = λ t. refl;
}

pub calendar : IsPlaced row.calendar (λ t. t.calendar) (λ m t. record t { calendar = m }) (is_there Calendar)
calendar = record {
  once = once_read read_date encode_date is_date date_complete;
  total = nat_cmp_total;
  same = nat_cmp-IsAntisymmetric;
  held = λ db t stored there. stored.calendar;
  absent = λ db t stored none. absurd (cc);
  keyed = λ db t stored. stored.calendar.keyed;
  valid = λ db t stored. stored.calendar.valid;
  rising = λ db t stored there. at_place (λ table. IsRising (db.trees table.tree)) (schema_in t.format).tables 8 row.calendar.table refl stored.rising;
  changed = calendar_changed;
  same_format = λ m t. refl;
  put_in = λ m t. refl;
  put_again = λ m n t. refl;
  put_back = λ t. refl;
}

pub fact : IsPlaced row.fact (λ t. t.fact) (λ m t. record t { fact = m }) (is_there Fact)
fact = record {
  once = once_read read_fact encode_fact is_fact fact_complete;
  total = line_cmp_total;
  same = line_cmp-IsAntisymmetric;
  held = λ db t stored there. stored.fact;
  absent = λ db t stored none. absurd (cc);
  keyed = λ db t stored. stored.fact.keyed;
  valid = λ db t stored. stored.fact.valid;
  rising = λ db t stored there. at_place (λ table. IsRising (db.trees table.tree)) (schema_in t.format).tables 9 row.fact.table refl stored.rising;
  changed = fact_changed;
  same_format = λ m t. refl;
  put_in = λ m t. refl;
  put_again = λ m n t. refl;
  put_back = λ t. refl;
}

pub fact2 : IsPlaced row.fact2 (λ t. t.fact2) (λ m t. record t { fact2 = m }) (is_there Fact2)
fact2 = record {
  once = once_read read_fact2 encode_fact2 is_fact2 fact2_complete;
  total = line_cmp_total;
  same = line_cmp-IsAntisymmetric;
  held = λ db t stored there. holds_in t.format row.fact2 db.trees t.fact2 there stored.fact2;
  absent = λ db t stored none. absent_in t.format row.fact2 db.trees t.fact2 none stored.fact2;
  keyed = λ db t stored. keyed_in t.format row.fact2 db.trees t.fact2 stored.fact2;
  valid = λ db t stored. valid_in t.format row.fact2 db.trees t.fact2 stored.fact2;
  rising = λ db t stored there. rising_in t.format db.trees 10 row.fact2.table refl there stored.rising;
  changed = fact2_changed;
  same_format = λ m t. refl;
  put_in = λ m t. refl;
  put_again = λ m n t. refl;
  put_back = λ t. refl;
}

pub void : IsPlaced row.void (λ t. t.void) (λ m t. record t { void = m }) (is_there Void)
void = record {
  once = once_read read_void encode_void is_void void_complete;
  total = line_cmp_total;
  same = line_cmp-IsAntisymmetric;
  held = λ db t stored there. holds_in t.format row.void db.trees t.void there stored.void;
  absent = λ db t stored none. absent_in t.format row.void db.trees t.void none stored.void;
  keyed = λ db t stored. keyed_in t.format row.void db.trees t.void stored.void;
  valid = λ db t stored. valid_in t.format row.void db.trees t.void stored.void;
  rising = λ db t stored there. rising_in t.format db.trees 11 row.void.table refl there stored.rising;
  changed = void_changed;
  same_format = λ m t. refl;
  put_in = λ m t. refl;
  put_again = λ m n t. refl;
  put_back = λ t. refl;
}
