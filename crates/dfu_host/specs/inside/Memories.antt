-- Bytes that a host in the code keeps in memory.
use Rattle.std.specs.Prelude.{ℕ, List, []}
use Rattle.dfu_host.specs.declared.host.Memory.{Memory}
use Rattle.dfu_host.specs.declared.host.Memory.TheVariants as memory

abbrev pub bytes_of : Memory → List ℕ
bytes_of memory.Nothing = []
bytes_of (memory.Bytes bytes) = bytes.items
