-- No refusal has the code that means OK. Assumes nothing.
use Prim.Native.Nat.{◌<◌}
use lib.Dec.{lit<}
use Rattle.verdict.specs.declared.Reason.{Reason}
use Rattle.verdict.specs.declared.Reason.TheVariants.{WrongEtx, WrongSum, UnknownCommand, WrongLength, WrongStage, Reversed, StartNowhere, EndNowhere, TwoAreas, NoUnit, StartUnaligned, EndUnaligned, BelowWindow, AboveWindow, Locked, OtherId, RateZero, RateAboveLimit, RateOff, NoSuchArea, NotWriteData, NoData, TooMuchData, BrokenUnit, DirtyFlash, NotNextRequest, LengthRefused}
use Rattle.verdict.specs.Code.{code_of}

-- no reason has the code 00h
pub code_positive : (reason : Reason) → 0 < code_of reason
code_positive WrongEtx = lit< tt
code_positive WrongSum = lit< tt
code_positive UnknownCommand = lit< tt
code_positive WrongLength = lit< tt
code_positive WrongStage = lit< tt
code_positive Reversed = lit< tt
code_positive StartNowhere = lit< tt
code_positive EndNowhere = lit< tt
code_positive TwoAreas = lit< tt
code_positive NoUnit = lit< tt
code_positive StartUnaligned = lit< tt
code_positive EndUnaligned = lit< tt
code_positive BelowWindow = lit< tt
code_positive AboveWindow = lit< tt
code_positive Locked = lit< tt
code_positive OtherId = lit< tt
code_positive RateZero = lit< tt
code_positive RateAboveLimit = lit< tt
code_positive RateOff = lit< tt
code_positive NoSuchArea = lit< tt
code_positive NotWriteData = lit< tt
code_positive NoData = lit< tt
code_positive TooMuchData = lit< tt
code_positive BrokenUnit = lit< tt
code_positive DirtyFlash = lit< tt
code_positive NotNextRequest = lit< tt
code_positive LengthRefused = lit< tt
