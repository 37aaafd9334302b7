-- The texts of the statements on the tables.
use Rattle.std.specs.Prelude.{ℕ, codes, List}
use Rattle.wh_policy.specs.declared.attribute.Dim.{Dim}
use Rattle.wh_policy.specs.declared.attribute.Dim.TheVariants.{Product, Store, Customer}

-- What every table is asked: to put a row, to remove the row of a key, to show all rows in the order of their keys, to show the row of a key, and to count the rows.
pub record Texts : Type 0 where
  pub put : List ℕ
  pub remove : List ℕ
  pub all : List ℕ
  pub get : List ℕ
  pub count : List ℕ

-- ---- by table

abbrev pub meta : Texts
meta = record {
  put = codes "INSERT INTO meta VALUES (?1, ?2) ON CONFLICT (name) DO UPDATE SET value = excluded.value";
  remove = codes "DELETE FROM meta WHERE name = ?1";
  all = codes "SELECT * FROM meta ORDER BY name";
  get = codes "SELECT * FROM meta WHERE name = ?1 ORDER BY name";
  count = codes "SELECT count(*) FROM meta";
}

abbrev pub command : Texts
command = record {
  put = codes "INSERT INTO command VALUES (?1, ?2, ?3, ?4, ?5, ?6) ON CONFLICT (number) DO UPDATE SET id = excluded.id, kind = excluded.kind, bytes = excluded.bytes, records = excluded.records, placeholders = excluded.placeholders";
  remove = codes "DELETE FROM command WHERE number = ?1";
  all = codes "SELECT * FROM command ORDER BY number";
  get = codes "SELECT * FROM command WHERE number = ?1 ORDER BY number";
  count = codes "SELECT count(*) FROM command";
}

abbrev pub member : Texts
member = record {
  put = codes "INSERT INTO member VALUES (?1, ?2, ?3, ?4) ON CONFLICT (dim, durable) DO UPDATE SET natural = excluded.natural, opening = excluded.opening";
  remove = codes "DELETE FROM member WHERE dim = ?1 AND durable = ?2";
  all = codes "SELECT * FROM member ORDER BY dim, durable";
  get = codes "SELECT * FROM member WHERE dim = ?1 AND durable = ?2 ORDER BY dim, durable";
  count = codes "SELECT count(*) FROM member";
}

abbrev pub change : Texts
change = record {
  put = codes "INSERT INTO change VALUES (?1, ?2, ?3, ?4, ?5, ?6, ?7, ?8, ?9, ?10, ?11, ?12) ON CONFLICT (command, record) DO UPDATE SET dim = excluded.dim, durable = excluded.durable, day = excluded.day, anchor = excluded.anchor, v1 = excluded.v1, v2 = excluded.v2, v3 = excluded.v3, v4 = excluded.v4, v5 = excluded.v5, v6 = excluded.v6";
  remove = codes "DELETE FROM change WHERE command = ?1 AND record = ?2";
  all = codes "SELECT * FROM change ORDER BY command, record";
  get = codes "SELECT * FROM change WHERE command = ?1 AND record = ?2 ORDER BY command, record";
  count = codes "SELECT count(*) FROM change";
}

abbrev pub product : Texts
product = record {
  put = codes "INSERT INTO product VALUES (?1, ?2, ?3, ?4, ?5, ?6, ?7, ?8, ?9, ?10, ?11, ?12, ?13, ?14, ?15, ?16, ?17, ?18, ?19) ON CONFLICT (surrogate) DO UPDATE SET durable = excluded.durable, natural = excluded.natural, from_day = excluded.from_day, to_day = excluded.to_day, is_current = excluded.is_current, a1 = excluded.a1, a2 = excluded.a2, a3 = excluded.a3, a4 = excluded.a4, a5 = excluded.a5, a6 = excluded.a6, b1 = excluded.b1, b2 = excluded.b2, b3 = excluded.b3, b4 = excluded.b4, b5 = excluded.b5, b6 = excluded.b6, profile_now = excluded.profile_now";
  remove = codes "DELETE FROM product WHERE surrogate = ?1";
  all = codes "SELECT * FROM product ORDER BY surrogate";
  get = codes "SELECT * FROM product WHERE surrogate = ?1 ORDER BY surrogate";
  count = codes "SELECT count(*) FROM product";
}

abbrev pub store : Texts
store = record {
  put = codes "INSERT INTO store VALUES (?1, ?2, ?3, ?4, ?5, ?6, ?7, ?8, ?9, ?10, ?11, ?12, ?13, ?14, ?15, ?16, ?17, ?18, ?19) ON CONFLICT (surrogate) DO UPDATE SET durable = excluded.durable, natural = excluded.natural, from_day = excluded.from_day, to_day = excluded.to_day, is_current = excluded.is_current, a1 = excluded.a1, a2 = excluded.a2, a3 = excluded.a3, a4 = excluded.a4, a5 = excluded.a5, a6 = excluded.a6, b1 = excluded.b1, b2 = excluded.b2, b3 = excluded.b3, b4 = excluded.b4, b5 = excluded.b5, b6 = excluded.b6, profile_now = excluded.profile_now";
  remove = codes "DELETE FROM store WHERE surrogate = ?1";
  all = codes "SELECT * FROM store ORDER BY surrogate";
  get = codes "SELECT * FROM store WHERE surrogate = ?1 ORDER BY surrogate";
  count = codes "SELECT count(*) FROM store";
}

abbrev pub customer : Texts
customer = record {
  put = codes "INSERT INTO customer VALUES (?1, ?2, ?3, ?4, ?5, ?6, ?7, ?8, ?9, ?10, ?11, ?12, ?13, ?14, ?15, ?16, ?17, ?18, ?19) ON CONFLICT (surrogate) DO UPDATE SET durable = excluded.durable, natural = excluded.natural, from_day = excluded.from_day, to_day = excluded.to_day, is_current = excluded.is_current, a1 = excluded.a1, a2 = excluded.a2, a3 = excluded.a3, a4 = excluded.a4, a5 = excluded.a5, a6 = excluded.a6, b1 = excluded.b1, b2 = excluded.b2, b3 = excluded.b3, b4 = excluded.b4, b5 = excluded.b5, b6 = excluded.b6, profile_now = excluded.profile_now";
  remove = codes "DELETE FROM customer WHERE surrogate = ?1";
  all = codes "SELECT * FROM customer ORDER BY surrogate";
  get = codes "SELECT * FROM customer WHERE surrogate = ?1 ORDER BY surrogate";
  count = codes "SELECT count(*) FROM customer";
}

abbrev pub profile : Texts
profile = record {
  put = codes "INSERT INTO profile VALUES (?1, ?2, ?3, ?4, ?5, ?6, ?7) ON CONFLICT (number) DO UPDATE SET v1 = excluded.v1, v2 = excluded.v2, v3 = excluded.v3, v4 = excluded.v4, v5 = excluded.v5, v6 = excluded.v6";
  remove = codes "DELETE FROM profile WHERE number = ?1";
  all = codes "SELECT * FROM profile ORDER BY number";
  get = codes "SELECT * FROM profile WHERE number = ?1 ORDER BY number";
  count = codes "SELECT count(*) FROM profile";
}

abbrev pub calendar : Texts
calendar = record {
  put = codes "INSERT INTO calendar VALUES (?1, ?2, ?3, ?4, ?5, ?6, ?7, ?8, ?9, ?10, ?11) ON CONFLICT (date_key) DO UPDATE SET iso = excluded.iso, year = excluded.year, quarter = excluded.quarter, month = excluded.month, day = excluded.day, day_of_year = excluded.day_of_year, weekday = excluded.weekday, weekday_name = excluded.weekday_name, weekend = excluded.weekend, holiday = excluded.holiday";
  remove = codes "DELETE FROM calendar WHERE date_key = ?1";
  all = codes "SELECT * FROM calendar ORDER BY date_key";
  get = codes "SELECT * FROM calendar WHERE date_key = ?1 ORDER BY date_key";
  count = codes "SELECT count(*) FROM calendar";
}

abbrev pub fact : Texts
fact = record {
  put = codes "INSERT INTO fact VALUES (?1, ?2, ?3, ?4, ?5, ?6, ?7, ?8, ?9, ?10, ?11, ?12, ?13) ON CONFLICT (ticket, line) DO UPDATE SET day = excluded.day, store_key = excluded.store_key, product_key = excluded.product_key, customer_key = excluded.customer_key, store_durable = excluded.store_durable, product_durable = excluded.product_durable, customer_durable = excluded.customer_durable, profile = excluded.profile, quantity = excluded.quantity, amount = excluded.amount, cost = excluded.cost";
  remove = codes "DELETE FROM fact WHERE ticket = ?1 AND line = ?2";
  all = codes "SELECT * FROM fact ORDER BY ticket, line";
  get = codes "SELECT * FROM fact WHERE ticket = ?1 AND line = ?2 ORDER BY ticket, line";
  count = codes "SELECT count(*) FROM fact";
}

abbrev pub fact2 : Texts
fact2 = record {
  put = codes "INSERT INTO fact2 VALUES (?1, ?2, ?3, ?4, ?5, ?6, ?7, ?8, ?9, ?10, ?11, ?12, ?13, ?14) ON CONFLICT (ticket, line) DO UPDATE SET day = excluded.day, store_key = excluded.store_key, product_key = excluded.product_key, customer_key = excluded.customer_key, store_durable = excluded.store_durable, product_durable = excluded.product_durable, customer_durable = excluded.customer_durable, profile = excluded.profile, quantity = excluded.quantity, amount = excluded.amount, cost = excluded.cost, discount = excluded.discount";
  remove = codes "DELETE FROM fact2 WHERE ticket = ?1 AND line = ?2";
  all = codes "SELECT * FROM fact2 ORDER BY ticket, line";
  get = codes "SELECT * FROM fact2 WHERE ticket = ?1 AND line = ?2 ORDER BY ticket, line";
  count = codes "SELECT count(*) FROM fact2";
}

abbrev pub void : Texts
void = record {
  put = codes "INSERT INTO void VALUES (?1, ?2, ?3) ON CONFLICT (ticket, line) DO UPDATE SET command = excluded.command";
  remove = codes "DELETE FROM void WHERE ticket = ?1 AND line = ?2";
  all = codes "SELECT * FROM void ORDER BY ticket, line";
  get = codes "SELECT * FROM void WHERE ticket = ?1 AND line = ?2 ORDER BY ticket, line";
  count = codes "SELECT count(*) FROM void";
}

-- ---- what else is written

-- no fact of the first format stays
abbrev pub clear_facts : List ℕ
clear_facts = codes "DELETE FROM fact"

-- ---- what else is asked

-- the last command that gives a policy
abbrev pub last_policy : List ℕ
last_policy = codes "SELECT * FROM command WHERE kind = 'init' OR kind = 'migrate' ORDER BY number DESC LIMIT 1"

-- the command that its sender calls so
abbrev pub command_of_id : List ℕ
command_of_id = codes "SELECT * FROM command WHERE id = ?1 ORDER BY number"

-- the last member of a dimension
abbrev pub last_member : List ℕ
last_member = codes "SELECT * FROM member WHERE dim = ?1 ORDER BY dim DESC, durable DESC LIMIT 1"

-- the member that its source calls so
abbrev pub member_of_natural : List ℕ
member_of_natural = codes "SELECT * FROM member WHERE dim = ?1 AND natural = ?2 ORDER BY dim, durable"

-- the records of a member, in order of acceptance
abbrev pub changes_of_member : List ℕ
changes_of_member = codes "SELECT * FROM change WHERE dim = ?1 AND durable = ?2 ORDER BY command, record"

-- a record of a dimension under its greatest surrogate key
abbrev pub greatest_anchor : List ℕ
greatest_anchor = codes "SELECT * FROM change WHERE dim = ?1 ORDER BY anchor DESC LIMIT 1"

-- the rows of a member of this dimension
abbrev pub rows_of_member : Dim → List ℕ
rows_of_member Product = codes "SELECT * FROM product WHERE durable = ?1 ORDER BY surrogate"
rows_of_member Store = codes "SELECT * FROM store WHERE durable = ?1 ORDER BY surrogate"
rows_of_member Customer = codes "SELECT * FROM customer WHERE durable = ?1 ORDER BY surrogate"

-- the last profile
abbrev pub last_profile : List ℕ
last_profile = codes "SELECT * FROM profile ORDER BY number DESC LIMIT 1"

-- the profile of a combination
abbrev pub profile_of_values : List ℕ
profile_of_values = codes "SELECT * FROM profile WHERE v1 = ?1 AND v2 = ?2 AND v3 = ?3 AND v4 = ?4 AND v5 = ?5 AND v6 = ?6 ORDER BY number"
