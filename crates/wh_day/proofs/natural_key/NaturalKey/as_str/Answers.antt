use Rattle.wh_day.proofs.KeyBytes.{key_is_text}
use Rattle.wh_day.proofs.natural_key.NaturalKey.as_str.Goals as goal

pub unreachable-requires : goal.unreachable-requires
unreachable-requires c = absurd (c.in-Err.ensures.cases.0 (key_is_text c.as_bytes.result.now c.as_bytes.ensures.key))
