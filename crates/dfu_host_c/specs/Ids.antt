-- Identifiers of a device, as a record for C.
use Rattle.dfu_wire.specs.declared.ids.Ids.{Ids}
use Rattle.dfu_host_c.specs.declared.ids.DfuIds.{DfuIds}

abbrev pub ids_of : DfuIds → Ids
ids_of r = record { device = r.device; product = r.product; vendor = r.vendor }
