use Rattle.std.proofs.Common.{◌∙◌, ap, map}
use Rattle.std.proofs.lemmas.Result.{IfOk-weaker}
use Rattle.wh_words.specs.Line.{Split, turned}
use Rattle.wh_words.proofs.LineLemmas.{adds, ends, leaves}
use Rattle.wh_words.proofs.line.Split.take_byte.Goals as goal

pub returns-in_default-Leaves : goal.returns-in_default-Leaves
returns-in_default-Leaves c = rw (← c.self.view_is)
    (leaves (record { place = c.self.inside.place; words = map (λ w. w.items) c.self.inside.words.items; word = c.self.inside.word.items }) c.args.byte c.turned.result c.turned.ensures c.in_default-Leaves.is-1)

pub returns-in_default-Adds : goal.returns-in_default-Adds
returns-in_default-Adds c =
    let place-is = c.turned.ensures ∙ ap (λ (s : Split). turned s.place c.args.byte) c.self.view_is in
    IfOk-weaker c.add_byte.result _ _ (λ _ is. is ∙ adds c.args.self.now c.args.byte c.turned.result place-is c.in_default-Adds.is-1) c.add_byte.ensures

pub returns-in_default-Ends : goal.returns-in_default-Ends
returns-in_default-Ends c =
    let place-is = c.turned.ensures ∙ ap (λ (s : Split). turned s.place c.args.byte) c.self.view_is in
    IfOk-weaker c.end_word.result _ _ (λ _ is. is ∙ ends c.args.self.now c.args.byte c.turned.result place-is c.in_default-Ends.is-1) c.end_word.ensures
