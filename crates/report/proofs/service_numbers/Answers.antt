-- `report::service_numbers`: each field by its bits. Assumes nothing.
use Rattle.format.specs.Strings.{type_at}
use Rattle.report.specs.Report.{service_numbers}
use Rattle.report.proofs.service_numbers.Goals as goal

pub returns : goal.returns
unfolding service_numbers type_at
returns c = rw (c.field-kind.ensures, c.field-satellite.ensures, c.field-correction.ensures, c.field-next.ensures, c.field-time.ensures)
