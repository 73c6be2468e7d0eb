-- Result of reading a file from its end, which agrees with the grammar (proofs/OneReading.antt).
use Rattle.std.specs.Prelude.{ℕ, ◌-◌, List, length, take, drop, slice_index, find, Option, Some, None, Result, Ok, Err}
use Rattle.byteorder.specs.Endian.{little_number}
use Rattle.dfu_suffix.specs.Grammar.{Content, tail_of, has_fault, fault_order}
use Rattle.dfu_wire.specs.declared.ids.Ids.{Ids}
use Rattle.dfu_suffix.specs.declared.fault.SuffixFault.{SuffixFault}

-- The identifiers in the last 16 bytes.
abbrev pub tail_ids : List ℕ → Ids
tail_ids tail = record {
  device = little_number 2 (drop 0 tail);
  product = little_number 2 (drop 2 tail);
  vendor = little_number 2 (drop 4 tail);
}

-- The content that the last 16 bytes of a file describe.
abbrev pub content_of : List ℕ → Content
content_of bytes = record {
  payload = take (length bytes - slice_index (tail_of bytes) 11) bytes;
  ids = tail_ids (tail_of bytes);
  dfu = little_number 2 (drop 6 (tail_of bytes));
  suffix = slice_index (tail_of bytes) 11;
}

-- The fault if there is one, or else the content.
abbrev pub content_unless_fault : Option SuffixFault → Content → Result Content SuffixFault
content_unless_fault (Some fault) content = Err fault
content_unless_fault None content = Ok content

-- The content of the bytes, or their first fault.
unfoldable pub read_content : List ℕ → Result Content SuffixFault
read_content bytes = content_unless_fault (find (has_fault bytes) fault_order) (content_of bytes)
