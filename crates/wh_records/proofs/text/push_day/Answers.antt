use Rattle.std.proofs.Common.{◌≡◌, ◌∙◌}
use Rattle.wh_day.specs.Day.{day_text}
use Rattle.wh_records.proofs.text.push_day.Goals as goal

pub returns : goal.returns
returns c =
    let text : c.as_str.result.now ≡ day_text c.args.day = c.as_str.ensures.value ∙ c.in_ok-text.ensures.ok in
    rw text at c.push_field.ensures.fields
