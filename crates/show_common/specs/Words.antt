-- What a host asks for, in words.
use Rattle.std.specs.Prelude.{List, ◌++◌, ℕ, codes, decimal}
use Rattle.host_request.specs.declared.Request.{Request}
use Rattle.host_request.specs.declared.Request.TheVariants.{Inquiry, Erase, Write, Read, Authenticate, Baud, Signature, Area, WriteData, Next}

abbrev pub range_words : ℕ → ℕ → List ℕ
range_words sad ead = decimal sad ++ codes " to " ++ decimal ead

abbrev pub words_of : Request → List ℕ
words_of Inquiry = codes "inquiry"
words_of (Erase sad ead) = codes "erase " ++ range_words sad ead
words_of (Write sad ead) = codes "write " ++ range_words sad ead
words_of (Read sad ead) = codes "read " ++ range_words sad ead
words_of Authenticate = codes "authenticate"
words_of (Baud brt) = codes "baud " ++ decimal brt
words_of Signature = codes "signature"
words_of (Area n) = codes "area " ++ decimal n
words_of WriteData = codes "write data"
words_of (Next left) = codes "next, left " ++ decimal left
