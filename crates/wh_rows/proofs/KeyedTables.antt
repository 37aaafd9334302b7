-- Each table stands at its keys.
use Rattle.std.specs.Prelude.{refl}
use Rattle.wh_rows.proofs.EachTable.Metas as meta
use Rattle.wh_rows.proofs.EachTable.Commands as command
use Rattle.wh_rows.proofs.EachTable.Members as member
use Rattle.wh_rows.proofs.EachTable.Changes as change
use Rattle.wh_rows.proofs.EachTable.Products as product
use Rattle.wh_rows.proofs.EachTable.Stores as store
use Rattle.wh_rows.proofs.EachTable.Customers as customer
use Rattle.wh_rows.proofs.EachTable.Profiles as profile
use Rattle.wh_rows.proofs.EachTable.Calendars as calendar
use Rattle.wh_rows.proofs.EachTable.Facts as fact
use Rattle.wh_rows.proofs.EachTable.Facts2 as fact2
use Rattle.wh_rows.proofs.EachTable.Voids as void
use Rattle.wh_rows.proofs.Places as place
use Rattle.wh_rows.specs.Keys.{bind_text, bind_number, bind_member, bind_change, bind_line, stands_at_text, stands_at_number, stands_at_member, stands_at_change, stands_at_line}
use Rattle.wh_rows.specs.Rows as row
use Rattle.wh_rows.specs.Texts as texts
use Rattle.wh_rows.specs.declared.table.Table.TheVariants.{Meta, Command, Member, Change, Product, Store, Customer, Profile, Calendar, Fact, Fact2, Void}
use Rattle.wh_rows.specs.Keyed.{IsKeyed}

pub metas : IsKeyed row.meta (λ t. t.meta) (λ m t. record t { meta = m }) Meta bind_text stands_at_text texts.meta
metas = record {
  puts = meta.put;
  removes = meta.remove;
  lists = meta.all;
  finds = meta.get;
  counts = meta.count;
  lists_stored = meta.all_stored;
  finds_stored = meta.get_stored;
  named = refl;
  harmed = λ stored damage. damage;
  placed = place.meta;
  plain = λ row. refl;
}

pub commands : IsKeyed row.command (λ t. t.command) (λ m t. record t { command = m }) Command bind_number stands_at_number texts.command
commands = record {
  puts = command.put;
  removes = command.remove;
  lists = command.all;
  finds = command.get;
  counts = command.count;
  lists_stored = command.all_stored;
  finds_stored = command.get_stored;
  named = refl;
  harmed = λ stored damage. damage;
  placed = place.command;
  plain = λ row. refl;
}

pub members : IsKeyed row.member (λ t. t.member) (λ m t. record t { member = m }) Member bind_member stands_at_member texts.member
members = record {
  puts = member.put;
  removes = member.remove;
  lists = member.all;
  finds = member.get;
  counts = member.count;
  lists_stored = member.all_stored;
  finds_stored = member.get_stored;
  named = refl;
  harmed = λ stored damage. damage;
  placed = place.member;
  plain = λ row. refl;
}

pub changes : IsKeyed row.change (λ t. t.change) (λ m t. record t { change = m }) Change bind_change stands_at_change texts.change
changes = record {
  puts = change.put;
  removes = change.remove;
  lists = change.all;
  finds = change.get;
  counts = change.count;
  lists_stored = change.all_stored;
  finds_stored = change.get_stored;
  named = refl;
  harmed = λ stored damage. damage;
  placed = place.change;
  plain = λ row. refl;
}

pub products : IsKeyed row.product (λ t. t.product) (λ m t. record t { product = m }) Product bind_number stands_at_number texts.product
products = record {
  puts = product.put;
  removes = product.remove;
  lists = product.all;
  finds = product.get;
  counts = product.count;
  lists_stored = product.all_stored;
  finds_stored = product.get_stored;
  named = refl;
  harmed = λ stored damage. damage;
  placed = place.product;
  plain = λ row. refl;
}

pub stores : IsKeyed row.store (λ t. t.store) (λ m t. record t { store = m }) Store bind_number stands_at_number texts.store
stores = record {
  puts = store.put;
  removes = store.remove;
  lists = store.all;
  finds = store.get;
  counts = store.count;
  lists_stored = store.all_stored;
  finds_stored = store.get_stored;
  named = refl;
  harmed = λ stored damage. damage;
  placed = place.store;
  plain = λ row. refl;
}

pub customers : IsKeyed row.customer (λ t. t.customer) (λ m t. record t { customer = m }) Customer bind_number stands_at_number texts.customer
customers = record {
  puts = customer.put;
  removes = customer.remove;
  lists = customer.all;
  finds = customer.get;
  counts = customer.count;
  lists_stored = customer.all_stored;
  finds_stored = customer.get_stored;
  named = refl;
  harmed = λ stored damage. damage;
  placed = place.customer;
  plain = λ row. refl;
}

pub profiles : IsKeyed row.profile (λ t. t.profile) (λ m t. record t { profile = m }) Profile bind_number stands_at_number texts.profile
profiles = record {
  puts = profile.put;
  removes = profile.remove;
  lists = profile.all;
  finds = profile.get;
  counts = profile.count;
  lists_stored = profile.all_stored;
  finds_stored = profile.get_stored;
  named = refl;
  harmed = λ stored damage. damage;
  placed = place.profile;
  plain = λ row. refl;
}

pub calendars : IsKeyed row.calendar (λ t. t.calendar) (λ m t. record t { calendar = m }) Calendar bind_number stands_at_number texts.calendar
calendars = record {
  puts = calendar.put;
  removes = calendar.remove;
  lists = calendar.all;
  finds = calendar.get;
  counts = calendar.count;
  lists_stored = calendar.all_stored;
  finds_stored = calendar.get_stored;
  named = refl;
  harmed = λ stored damage. damage;
  placed = place.calendar;
  plain = λ row. refl;
}

pub facts : IsKeyed row.fact (λ t. t.fact) (λ m t. record t { fact = m }) Fact bind_line stands_at_line texts.fact
facts = record {
  puts = fact.put;
  removes = fact.remove;
  lists = fact.all;
  finds = fact.get;
  counts = fact.count;
  lists_stored = fact.all_stored;
  finds_stored = fact.get_stored;
  named = refl;
  harmed = λ stored damage. damage;
  placed = place.fact;
  plain = λ row. refl;
}

pub facts2 : IsKeyed row.fact2 (λ t. t.fact2) (λ m t. record t { fact2 = m }) Fact2 bind_line stands_at_line texts.fact2
facts2 = record {
  puts = fact2.put_in;
  removes = fact2.remove_in;
  lists = fact2.all_in;
  finds = fact2.get_in;
  counts = fact2.count_in;
  lists_stored = fact2.all_stored_in;
  finds_stored = fact2.get_stored_in;
  named = refl;
  harmed = λ stored damage. damage;
  placed = place.fact2;
  plain = λ row. refl;
}

pub voids : IsKeyed row.void (λ t. t.void) (λ m t. record t { void = m }) Void bind_line stands_at_line texts.void
voids = record {
  puts = void.put_in;
  removes = void.remove_in;
  lists = void.all_in;
  finds = void.get_in;
  counts = void.count_in;
  lists_stored = void.all_stored_in;
  finds_stored = void.get_stored_in;
  named = refl;
  harmed = λ stored damage. damage;
  placed = place.void;
  plain = λ row. refl;
}
