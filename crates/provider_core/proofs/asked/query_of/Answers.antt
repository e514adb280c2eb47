use Rattle.provider_core.proofs.PlainTexts.{ascii_text}
use Rattle.provider_core.proofs.asked.query_of.Goals as goal

pub judge_query_bytes-requires : goal.judge_query_bytes-requires
judge_query_bytes-requires c = ascii_text c.args.text.now c.requires
