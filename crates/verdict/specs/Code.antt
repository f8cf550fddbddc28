-- The paper's numbers for the reasons and for the answer.
use Rattle.std.specs.Prelude.{ℕ, Ok, Err}
use Rattle.verdict.specs.declared.Reason.{Reason}
use Rattle.verdict.specs.declared.Reason.TheVariants.{WrongEtx, WrongSum, UnknownCommand, WrongLength, WrongStage, Reversed, StartNowhere, EndNowhere, TwoAreas, NoUnit, StartUnaligned, EndUnaligned, BelowWindow, AboveWindow, Locked, OtherId, RateZero, RateAboveLimit, RateOff, NoSuchArea, NotWriteData, NoData, TooMuchData, BrokenUnit, DirtyFlash, NotNextRequest, LengthRefused}
use Rattle.verdict.specs.Check.{Verdict}

abbrev pub code_of : Reason → ℕ
code_of WrongEtx = 0xC1
code_of WrongSum = 0xC2
code_of UnknownCommand = 0xC0
code_of WrongLength = 0xC1
code_of WrongStage = 0xC3
code_of Reversed = 0xD0
code_of StartNowhere = 0xD0
code_of EndNowhere = 0xD0
code_of TwoAreas = 0xD0
code_of NoUnit = 0xD0
code_of StartUnaligned = 0xD0
code_of EndUnaligned = 0xD0
code_of BelowWindow = 0xDA
code_of AboveWindow = 0xDA
code_of Locked = 0xDC
code_of OtherId = 0xDB
code_of RateZero = 0xD4
code_of RateAboveLimit = 0xD4
code_of RateOff = 0xD4
code_of NoSuchArea = 0xD0
code_of NotWriteData = 0xC1
code_of NoData = 0xC1
code_of TooMuchData = 0xC1
code_of BrokenUnit = 0xC1
code_of DirtyFlash = 0xE2
code_of NotNextRequest = 0xC1
code_of LengthRefused = 0xC1

-- STS of a status reply
abbrev pub status_of : Verdict → ℕ
status_of (Ok granted) = 0x00
status_of (Err reason) = code_of reason
