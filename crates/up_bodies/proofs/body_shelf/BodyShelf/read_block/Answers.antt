use Rattle.up_bodies.proofs.body_shelf.BodyShelf.read_block.Goals as goal

pub returns-in-Ok-clause-bytes : goal.returns-in-Ok-clause-bytes
returns-in-Ok-clause-bytes g c were = c.in-Ok.ensures.bytes were.1
