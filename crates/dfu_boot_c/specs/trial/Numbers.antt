-- Numbers that the calls for a trial return to a program in C.
use Rattle.std.specs.Prelude.{ℤ, negsuc}
use Rattle.dfu_boot.specs.declared.trial.tries.TriesFault.TheVariants.{NoSectors, TooFew, TooMany}
use Rattle.dfu_boot_c.specs.declared.trial.flash.TrialRefusal.{TrialRefusal}
use Rattle.dfu_boot_c.specs.declared.trial.flash.TrialRefusal.TheVariants.{NoConfig, Tries, NoMedium}

-- DFU_ELSEWHERE: no image that may run begins at the offset.
abbrev pub ELSEWHERE : ℤ
ELSEWHERE = negsuc 18

-- Number of a refusal: DFU_NO_CONFIG, DFU_NO_SECTORS, DFU_FEW_TRIES, DFU_MANY_TRIES or DFU_NO_MEDIUM.
abbrev pub trial_refusal_number : TrialRefusal → ℤ
trial_refusal_number NoConfig = negsuc 1
trial_refusal_number (Tries NoSectors) = negsuc 15
trial_refusal_number (Tries TooFew) = negsuc 16
trial_refusal_number (Tries TooMany) = negsuc 17
trial_refusal_number NoMedium = negsuc 2
