use Rattle.std.proofs.Common.{◌≡◌, ◌-◌, ◌*◌, length, min, sym, ap, ◌∙◌, arith}
use Rattle.up_bodies.specs.Blocks.{block_len}
use Rattle.up_bodies.proofs.Reading.{length_part}
use Rattle.up_bodies.proofs.open_file.block_len_of.Goals as goal

pub returns-clause-len : goal.returns-clause-len
returns-clause-len c =
    let bytes = c.args.place.now.bytes in
    let count : c.min.result ≡ min (length bytes - 65_536 * c.args.index) 65_536 = omega (arith, c.min.ensures, c.len.ensures, c.requires.within) in
    c.block_len.ensures ∙ ap block_len (count ∙ sym (length_part c.args.index bytes))
