-- `report::put_listing`: the listing is never refused, since the list is long enough. Assumes nothing.
use mathlib.Core.Path.{refl, sym}
use lib.Seq.{length-take-le}
use Rattle.report.proofs.Found.{never_refused, found, part_inside, lines_fit, adds_listed}
use Rattle.report.proofs.put_listing.Goals as goal

pub returns-in_default : goal.returns-in_default
returns-in_default c = absurd (never_refused c.list.ensures c.requires.0 refl c.in_default.is)

pub slice_bounds-found-end : goal.slice_bounds-found-end
slice_bounds-found-end c = (found c.list.ensures c.requires.0 refl c.in-Ok.is).enough

pub slice_bounds-put_lines-end : goal.slice_bounds-put_lines-end
slice_bounds-put_lines-end c = sym (length-take-le _ _ (found c.list.ensures c.requires.0 refl c.in-Ok.is).enough)

pub put_lines-requires : goal.put_lines-requires
put_lines-requires c =
    let f = found c.list.ensures c.requires.0 refl c.in-Ok.is in
    (c.requires.0, part_inside f c.requires.0, lines_fit f c.requires.0 c.requires.1 c.bytes.ensures)

pub returns : goal.returns
returns c =
    adds_listed (found c.list.ensures c.requires.0 refl c.in-Ok.is) c.requires.0 c.requires.1 c.bytes.ensures c.put_lines.ensures
