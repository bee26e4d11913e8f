-- The numbers under which the program prints refusals (this profile).
use Rattle.std.specs.Prelude.{ℕ}
use Rattle.verifier.specs.declared.refusals.VerifyError.{VerifyError}
use Rattle.verifier.specs.declared.refusals.VerifyError.TheVariants.{NoTyping, OutOfMemory}

abbrev pub typing_number_of : VerifyError → ℕ
typing_number_of (NoTyping method failure) = 301
typing_number_of OutOfMemory = 302
