-- A request as three numbers: its own, and those that it carries, 0 where it has none.
use Rattle.std.specs.Prelude.{not, cond, ℕ, ltb, eqb, Option, Some, None}
use Rattle.host_request.specs.declared.Request.{Request}
use Rattle.host_request.specs.declared.Request.TheVariants.{Inquiry, Erase, Write, Read, Authenticate, Baud, Signature, Area, WriteData, Next}

-- none has 0: bytes that were only cleared are no request
abbrev pub request_number : Request → ℕ
request_number Inquiry = 1
request_number (Erase s e) = 2
request_number (Write s e) = 3
request_number (Read s e) = 4
request_number Authenticate = 5
request_number (Baud brt) = 6
request_number Signature = 7
request_number (Area n) = 8
request_number WriteData = 9
request_number (Next left) = 10

-- SAD, BRT, the area's number, the bytes left
abbrev pub first_number : Request → ℕ
first_number Inquiry = 0
first_number (Erase s e) = s
first_number (Write s e) = s
first_number (Read s e) = s
first_number Authenticate = 0
first_number (Baud brt) = brt
first_number Signature = 0
first_number (Area n) = n
first_number WriteData = 0
first_number (Next left) = left

-- EAD
abbrev pub second_number : Request → ℕ
second_number Inquiry = 0
second_number (Erase s e) = e
second_number (Write s e) = e
second_number (Read s e) = e
second_number Authenticate = 0
second_number (Baud brt) = 0
second_number Signature = 0
second_number (Area n) = 0
second_number WriteData = 0
second_number (Next left) = 0

-- the other way round: requests without a number of their own,
abbrev pub bare_in : ℕ → Option Request
bare_in n =
    cond (eqb n 1) (Some Inquiry)
    (cond (eqb n 5) (Some Authenticate)
    (cond (eqb n 7) (Some Signature)
    (cond (eqb n 9) (Some WriteData)
    None)))

-- with one at most,
abbrev pub single_in : ℕ → ℕ → Option Request
single_in n first =
    cond (eqb n 6) (Some (Baud first))
    (cond (eqb n 10) (Some (Next first))
    (cond (eqb n 8) (cond (ltb first 256) (Some (Area first)) None)
    (cond (not (eqb first 0)) None
    (bare_in n))))

-- and all: a number that the request does not have is 0
unfoldable pub request_in : ℕ → ℕ → ℕ → Option Request
request_in n first second =
    cond (eqb n 2) (Some (Erase first second))
    (cond (eqb n 3) (Some (Write first second))
    (cond (eqb n 4) (Some (Read first second))
    (cond (not (eqb second 0)) None
    (single_in n first))))
