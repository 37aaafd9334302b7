-- Reading a table in the order of its keys, a part at a time.
use Rattle.std.specs.Prelude.{◌≡◌, refl, nat_lt, ◌≤◌, ℕ, List, [], filter, length, Bool, true, false, codes, Option, None, Some}
use Rattle.std.specs.List.Sorted.{IsPermutation}
use Rattle.std.specs.Ordering.{is_gt}
use Rattle.std.specs.declared.cmp.Ordering.TheVariants.{Equal}
use Rattle.sqlite.specs.Order.{Row}
use Rattle.sqlite.specs.Schema.{Schema}
use Rattle.sqlite.specs.Table as stored
use Rattle.sqlite.specs.Effect.{Database}
use Rattle.sqlite_trees.specs.Tree.{IsAscending}
use Rattle.wh_rows.specs.declared.table.Table.{Table}
use Rattle.wh_rows.specs.Holds.{Layout}
use Rattle.wh_rows.specs.Firsts.{Front}
use Rattle.wh_rows.specs.Raw.{Stored, IsStored, stored_cmp, ReadsFrontStored}

-- so many rows, in the order of their keys
abbrev pub forward : ℕ → Front
forward most = record { most = most; backwards = false }

-- the texts that show the first part of a table, and the part after a key, and how many rows are a part
pub record PartTexts : Type 0 where
  pub first : List ℕ
  pub after : List ℕ
  pub most : ℕ
  pub some : nat_lt 0 most ≡ true

-- ---- the part after a key, or the first where there is no key

abbrev pub part_text : {K : Type 0} → PartTexts → Option K → List ℕ
part_text texts None = texts.first
part_text texts (Some key) = texts.after

abbrev pub bind_part : {K : Type 0} → (K → Row) → Option K → Row
bind_part bind None = []
bind_part bind (Some key) = bind key

-- the row is after the key, in the order of keys
abbrev pub is_behind : {K V : Type 0} → Layout K V → Option K → V → Bool
is_behind layout None row = true
is_behind layout (Some key) row = is_gt (layout.order (layout.key row) key)

-- so is the stored row: by its first columns, as SQL orders any values
abbrev pub stands_behind : {K V : Type 0} → Layout K V → (K → Row) → Option K → Row → Bool
stands_behind layout bind None row = true
stands_behind layout bind (Some key) row = is_gt (stored_cmp layout.table false row (bind key))

-- what the two texts of a table have to mean
abbrev pub ReadsParts : {K V : Type 0} → Schema → Layout K V → (K → Row) → PartTexts → Type 0
ReadsParts {K = K} under layout bind texts = (after : Option K) → ReadsFrontStored under (forward texts.most) layout (bind_part bind after) (stands_behind layout bind after) (is_behind layout after) (part_text texts after)

-- ---- keys, and the columns that they are

-- a key's columns come first in a row, and are ordered as keys are; what ties with them stands at the key
pub record IsKeyed {K V : Type 0} (layout : Layout K V) (bind : K → Row) (stands_at : K → Row → Bool) : Type 0 where
  pub ordered : (v : V) (k : K) → stored_cmp layout.table false (layout.encode v) (bind k) ≡ layout.order (layout.key v) k
  pub led : (r : Row) (v : V) → stored_cmp layout.table false r (layout.encode v) ≡ stored_cmp layout.table false r (bind (layout.key v))
  pub tied : (r : Row) (k : K) → stored_cmp layout.table false r (bind k) ≡ Equal → stands_at k r ≡ true

-- at a key at most one row is stored
abbrev pub StandsOnce : {K : Type 0} → (K → Row → Bool) → Table → Type 0
StandsOnce {K = K} stands_at table = (db : Database) (stored : Stored) → IsStored stored db → (k : K) → length (filter (stands_at k) (stored.rows table)) ≤ 1

-- stored rows in the order of their keys
pub record IsArranged (table : stored.Table) (rows ordered : List Row) : Type 0 where
  pub same : IsPermutation rows ordered
  pub in_order : IsAscending (λ r s. is_gt (stored_cmp table false r s) ≡ false) ordered

-- ---- the texts by table

abbrev pub meta : PartTexts
meta = record {
  first = codes "SELECT * FROM meta ORDER BY name LIMIT 256";
  after = codes "SELECT * FROM meta WHERE name > ?1 ORDER BY name LIMIT 256";
  most = 256;
  some = refl;
}

-- A command may be a megabyte long, so these are read one at a time.
abbrev pub command : PartTexts
command = record {
  first = codes "SELECT * FROM command ORDER BY number LIMIT 1";
  after = codes "SELECT * FROM command WHERE number > ?1 ORDER BY number LIMIT 1";
  most = 1;
  some = refl;
}

abbrev pub member : PartTexts
member = record {
  first = codes "SELECT * FROM member ORDER BY dim, durable LIMIT 256";
  after = codes "SELECT * FROM member WHERE dim >= ?1 AND (dim > ?1 OR durable > ?2) ORDER BY dim, durable LIMIT 256";
  most = 256;
  some = refl;
}

abbrev pub change : PartTexts
change = record {
  first = codes "SELECT * FROM change ORDER BY command, record LIMIT 256";
  after = codes "SELECT * FROM change WHERE command >= ?1 AND (command > ?1 OR record > ?2) ORDER BY command, record LIMIT 256";
  most = 256;
  some = refl;
}

abbrev pub product : PartTexts
product = record {
  first = codes "SELECT * FROM product ORDER BY surrogate LIMIT 256";
  after = codes "SELECT * FROM product WHERE surrogate > ?1 ORDER BY surrogate LIMIT 256";
  most = 256;
  some = refl;
}

abbrev pub store : PartTexts
store = record {
  first = codes "SELECT * FROM store ORDER BY surrogate LIMIT 256";
  after = codes "SELECT * FROM store WHERE surrogate > ?1 ORDER BY surrogate LIMIT 256";
  most = 256;
  some = refl;
}

abbrev pub customer : PartTexts
customer = record {
  first = codes "SELECT * FROM customer ORDER BY surrogate LIMIT 256";
  after = codes "SELECT * FROM customer WHERE surrogate > ?1 ORDER BY surrogate LIMIT 256";
  most = 256;
  some = refl;
}

abbrev pub profile : PartTexts
profile = record {
  first = codes "SELECT * FROM profile ORDER BY number LIMIT 256";
  after = codes "SELECT * FROM profile WHERE number > ?1 ORDER BY number LIMIT 256";
  most = 256;
  some = refl;
}

abbrev pub calendar : PartTexts
calendar = record {
  first = codes "SELECT * FROM calendar ORDER BY date_key LIMIT 256";
  after = codes "SELECT * FROM calendar WHERE date_key > ?1 ORDER BY date_key LIMIT 256";
  most = 256;
  some = refl;
}

abbrev pub fact : PartTexts
fact = record {
  first = codes "SELECT * FROM fact ORDER BY ticket, line LIMIT 256";
  after = codes "SELECT * FROM fact WHERE ticket >= ?1 AND (ticket > ?1 OR line > ?2) ORDER BY ticket, line LIMIT 256";
  most = 256;
  some = refl;
}

abbrev pub fact2 : PartTexts
fact2 = record {
  first = codes "SELECT * FROM fact2 ORDER BY ticket, line LIMIT 256";
  after = codes "SELECT * FROM fact2 WHERE ticket >= ?1 AND (ticket > ?1 OR line > ?2) ORDER BY ticket, line LIMIT 256";
  most = 256;
  some = refl;
}

abbrev pub void : PartTexts
void = record {
  first = codes "SELECT * FROM void ORDER BY ticket, line LIMIT 256";
  after = codes "SELECT * FROM void WHERE ticket >= ?1 AND (ticket > ?1 OR line > ?2) ORDER BY ticket, line LIMIT 256";
  most = 256;
  some = refl;
}
