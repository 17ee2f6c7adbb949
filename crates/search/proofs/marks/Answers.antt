-- `search::marks`: a bit of the result is 1 where its six pairs of bits match. Assumes nothing.
use Rattle.search.proofs.Hits.{the_hits}
use Rattle.search.proofs.marks.Goals as goal

pub returns : goal.returns
returns c = the_hits c.args.word c.ranges.word.fits
