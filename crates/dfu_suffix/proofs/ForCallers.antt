-- Laws of the file format, for the proofs of other crates.
use Rattle.dfu_suffix.specs.Laws.{FilesHaveNoFault, OneReading}
use Rattle.dfu_suffix.proofs.OneReading as reading

-- A file of the grammar has no fault.
pub grammar_file_is_faultless : FilesHaveNoFault
grammar_file_is_faultless = reading.file_bytes_have_no_fault

-- Bytes can be read as a file of the grammar in at most one way.
pub one_reading : OneReading
one_reading = reading.one_reading
