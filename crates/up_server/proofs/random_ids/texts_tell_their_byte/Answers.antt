use Rattle.up_server.proofs.ShardLemmas.{texts_tell}
use Rattle.up_server.proofs.random_ids.texts_tell_their_byte.Goals as goal

pub returns : goal.returns
returns c = texts_tell
