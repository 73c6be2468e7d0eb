-- Numbers and names of a device's status codes (USB DFU 1.1, section 6.1.2).
use Rattle.std.specs.Prelude.{ℕ, List, codes}
use Rattle.dfu_wire.specs.declared.codes.Code.{Code}
use Rattle.dfu_wire.specs.declared.codes.Code.TheVariants as code

-- Number of a code in bStatus.
abbrev pub code_byte : Code → ℕ
code_byte code.Ok = 0
code_byte code.Target = 1
code_byte code.File = 2
code_byte code.Write = 3
code_byte code.Erase = 4
code_byte code.CheckErased = 5
code_byte code.Prog = 6
code_byte code.Verify = 7
code_byte code.Address = 8
code_byte code.NotDone = 9
code_byte code.Firmware = 10
code_byte code.Vendor = 11
code_byte code.Usbr = 12
code_byte code.Por = 13
code_byte code.Unknown = 14
code_byte code.StalledPkt = 15

-- Name of a code in the standard.
abbrev pub code_name : Code → List ℕ
code_name code.Ok = codes "OK"
code_name code.Target = codes "errTARGET"
code_name code.File = codes "errFILE"
code_name code.Write = codes "errWRITE"
code_name code.Erase = codes "errERASE"
code_name code.CheckErased = codes "errCHECK_ERASED"
code_name code.Prog = codes "errPROG"
code_name code.Verify = codes "errVERIFY"
code_name code.Address = codes "errADDRESS"
code_name code.NotDone = codes "errNOTDONE"
code_name code.Firmware = codes "errFIRMWARE"
code_name code.Vendor = codes "errVENDOR"
code_name code.Usbr = codes "errUSBR"
code_name code.Por = codes "errPOR"
code_name code.Unknown = codes "errUNKNOWN"
code_name code.StalledPkt = codes "errSTALLEDPKT"
