use Rattle.up_headers.specs.Words.{is_no_space}
use Rattle.up_headers.proofs.MetadataTexts.{drop_while-le}
use Rattle.up_headers.proofs.words.first_word.Goals as goal

pub slice_bounds-word-count : goal.slice_bounds-word-count
slice_bounds-word-count c = rw c.from_space-behind.ensures (drop_while-le is_no_space c.skip_spaces-text.result.now)
