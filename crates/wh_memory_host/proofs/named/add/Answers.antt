use Rattle.std.proofs.Common.{rules, ◌≡◌, ◌++◌, ◌∷◌, []}
use Rattle.std.specs.String.{string_bytes}
use Rattle.wh_memory_host.specs.declared.named.NamedValue.{NamedValue}
use Rattle.wh_memory_host.proofs.NamedLemmas.{of_name, is_another, put_last, others_last}
use Rattle.wh_memory_host.proofs.named.add.Goals as goal

pub returns-clause-now : goal.returns-clause-now
returns-clause-now g c = λ none.
    let item : NamedValue g.row.T.Denot = record { name = c.in_ok-name.name; value = c.args.value } in
    let of : string_bytes item.name ≡ c.args.name.now = search rules in
    let items : c.push.new.self.items ≡ c.args.all.now.items ++ item ∷ [] = search rules in
    rw items (put_last c.args.all.now.items c.args.name.now item none (of_name item c.args.name.now of))

pub returns-clause-others : goal.returns-clause-others
returns-clause-others g c = λ other apart.
    let item : NamedValue g.row.T.Denot = record { name = c.in_ok-name.name; value = c.args.value } in
    let of : string_bytes item.name ≡ c.args.name.now = search rules in
    let items : c.push.new.self.items ≡ c.args.all.now.items ++ item ∷ [] = search rules in
    rw items (others_last c.args.all.now.items other item (is_another item c.args.name.now other (of_name item c.args.name.now of) apart))
