use Rattle.std.proofs.Common.{sym, ◌∙◌, ap}
use Rattle.std.specs.BTreeMap.{is_at}
use Rattle.std.specs.Map.{set_value}
use Rattle.std.specs.Option.{option_copied_mut}
use Rattle.wh_query.specs.Asked.{words_of}
use Rattle.wh_query.specs.Words.{by_texts, by_words}
use Rattle.wh_query.proofs.Words.{lookup_by_words, set_by_words}
use Rattle.wh_query.proofs.lines.add_to.Goals as goal

pub returns-in-None : goal.returns-in-None
returns-in-None c = (
  sym (lookup_by_words c.args.labels.now c.args.figures.now.entries) ∙ sym c.get_mut.ensures.value ∙ ap option_copied_mut c.in-None.is,
  ap (λ m. by_words m.entries) c.get_mut.follows.holds-at-none,
)

pub returns-then-is_full : goal.returns-then-is_full
returns-then-is_full c = (
  c.in-Some.line.now,
  sym (lookup_by_words c.args.labels.now c.args.figures.now.entries) ∙ sym c.get_mut.ensures.value ∙ ap option_copied_mut c.in-Some.is,
  c.is_full.ensures.0 c.if-is_full.true,
)

pub returns-else-is_full : goal.returns-else-is_full
returns-else-is_full c = (
  c.in-Some.line.now,
  sym (lookup_by_words c.args.labels.now c.args.figures.now.entries) ∙ sym c.get_mut.ensures.value ∙ ap option_copied_mut c.in-Some.is,
  ap by_words (c.get_mut.follows.holds c.add.new.self).0 ∙ set_by_words c.args.labels.now c.add.new.self c.args.figures.now.entries
      ∙ ap (set_value (is_at (by_texts (words_of c.args.labels.now))) (by_words c.args.figures.now.entries)) c.add.ensures,
)
