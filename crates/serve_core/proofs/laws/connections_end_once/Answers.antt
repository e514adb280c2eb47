use Rattle.serve_core.proofs.Endings as endings
use Rattle.serve_core.proofs.laws.connections_end_once.Goals as goal

pub returns : goal.returns
returns c = endings.connections_end_once
