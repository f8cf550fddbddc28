-- The replay of a line's record on an image: the act that each exchange tells of is performed.
use Rattle.std.specs.Prelude.{List, [], ◌∷◌, ℕ, Option, None}
use Rattle.profile.specs.declared.Area.{Area}
use Rattle.packet_fields.specs.Fields.{info_of}
use Rattle.flash.specs.Acts.{performed}
use Rattle.record_exchange.specs.declared.Told.{Told}
use Rattle.record_exchange.specs.Exchange.{exchange_read}
use Rattle.record_exchange.specs.Line.{Entry, exchange, restart}

-- the image so far, and where the next write data lands: nowhere before the first write command
pub record Tape : Type 0 where
  pub image : List ℕ
  pub landing : Option ℕ

-- what was told of the request q, done
abbrev pub done : List Area → List ℕ → Told → List ℕ → Tape
done areas q told image = record { image = performed areas told.act (info_of q) image; landing = told.landing }

unfoldable pub entry_replay : List Area → Entry → Tape → Tape
entry_replay areas (exchange q reply) t = done areas q (exchange_read q reply t.landing) t.image
entry_replay areas restart t = t

unfoldable pub replay_from : List Area → Tape → List Entry → Tape
replay_from areas t [] = t
replay_from areas t (e ∷ es) = replay_from areas (entry_replay areas e t) es

-- the image after a record
unfoldable pub replay : List Area → List ℕ → List Entry → List ℕ
replay areas image es = (replay_from areas (record { image = image; landing = None }) es).image
