-- Records for C with the fields of DFU files.
use Rattle.std.specs.Prelude.{ℕ, ◌-◌, List, length, drop}
use Rattle.byteorder.specs.Endian.{little_number}
use Rattle.dfu_wire.specs.declared.ids.Ids.{Ids}
use Rattle.dfu_host_c.specs.declared.file.DfuFile.{DfuFile}

-- Record of a file: the length of its payload, the fields of its suffix, and its CRC, which is in its last four bytes, low byte first.
abbrev pub record_of : (payload : List ℕ) → Ids → (dfu suffix : ℕ) → (bytes : List ℕ) → DfuFile
record_of payload ids dfu suffix bytes = record {
  payload = length payload;
  suffix = suffix;
  crc = little_number 4 (drop (length bytes - 4) bytes);
  device = ids.device;
  product = ids.product;
  vendor = ids.vendor;
  dfu = dfu;
}
