-- A line's record reads back from its recording; in a recording of any shape what is no pair does nothing. Assumes nothing.
use mathlib.Core.Bool.{false}
use mathlib.Core.List.{List, [], ◌∷◌, ◌++◌}
use Rattle.std.specs.Prelude.{Option, None, Some}
use mathlib.Core.Path.{◌≡◌, refl, sym, ap, ◌∙◌}
use Prim.Native.Nat.{ℕ}
use lib.ListN.{length}
use Rattle.packet.proofs.Laws.{impossible}
use Rattle.recording.specs.declared.Ended.TheVariants.{Whole}
use Rattle.recording.specs.Format.{Record, host, device, reset, written, AllFormed}
use Rattle.recording.specs.Recording.{records_of, extent_of}
use Rattle.recording.proofs.Written.{reads_back, reads_whole}
use Rattle.record_exchange.specs.Line.{Entry, exchange, restart, exchanges_from, exchanges_of, taped, begins_device, ends_host, Stray}

-- what a line's record makes is that record again
pub taped_back : (es : List Entry) → exchanges_of (taped es) ≡ es
unfolding taped exchanges_from
taped_back [] = refl
taped_back (exchange q reply ∷ es) = ap (λ (l : List Entry). exchange q reply ∷ l) (taped_back es)
taped_back (restart ∷ es) = ap (λ (l : List Entry). restart ∷ l) (taped_back es)

-- and so is what its bytes give, which are read to the end
module _ (es : List Entry) (formed : AllFormed (taped es)) where
  pub tape_back : exchanges_of (records_of (written (taped es))) ≡ es
  tape_back = ap exchanges_of (reads_back (taped es) formed) ∙ taped_back es

  pub tape_whole : extent_of (written (taped es)) ≡ record { count = length (written (taped es)); ended = Whole }
  tape_whole = reads_whole (taped es) formed

-- what waits behind records
unfoldable waits_behind : Option (List ℕ) → List Record → Option (List ℕ)
waits_behind waiting [] = waiting
waits_behind waiting (host q ∷ more) = waits_behind (Some q) more
waits_behind waiting (device reply ∷ more) = waits_behind None more
waits_behind waiting (reset ∷ more) = waits_behind None more

-- records in two parts
exchanges_append : (waiting : Option (List ℕ)) (a b : List Record)
    → exchanges_from waiting (a ++ b) ≡ exchanges_from waiting a ++ exchanges_from (waits_behind waiting a) b
unfolding exchanges_from waits_behind
exchanges_append waiting [] b = refl
exchanges_append waiting (host q ∷ a) b = exchanges_append (Some q) a b
exchanges_append None (device reply ∷ a) b = exchanges_append None a b
exchanges_append (Some q) (device reply ∷ a) b = ap (λ (l : List Entry). exchange q reply ∷ l) (exchanges_append None a b)
exchanges_append waiting (reset ∷ a) b = ap (λ (l : List Entry). restart ∷ l) (exchanges_append None a b)

-- what waits says nothing where no device record comes at once
waits_unseen : (b : List Record) → begins_device b ≡ false → (v w : Option (List ℕ)) → exchanges_from v b ≡ exchanges_from w b
unfolding exchanges_from
waits_unseen [] h v w = refl
waits_unseen (host q ∷ b) h v w = refl
waits_unseen (device reply ∷ b) h v w = impossible (cc)
waits_unseen (reset ∷ b) h v w = refl

-- and nothing waits where no host record came last
waits_last : (waiting : Option (List ℕ)) (r : Record) (more : List Record) → ends_host (r ∷ more) ≡ false → waits_behind waiting (r ∷ more) ≡ None
unfolding waits_behind ends_host
waits_last waiting (host q) [] h = impossible (cc)
waits_last waiting (device reply) [] h = refl
waits_last waiting reset [] h = refl
waits_last waiting (host q) (s ∷ more) h = waits_last (Some q) s more h
waits_last waiting (device reply) (s ∷ more) h = waits_last None s more h
waits_last waiting reset (s ∷ more) h = waits_last None s more h

waits_none : (a : List Record) → ends_host a ≡ false → waits_behind None a ≡ None
unfolding waits_behind
waits_none [] h = refl
waits_none (r ∷ more) h = waits_last None r more h

module _ (a b : List Record) where
  -- a record that is no half of a pair does nothing
  pub stray_unseen : (r : Record) → Stray a r b → exchanges_of (a ++ r ∷ b) ≡ exchanges_of (a ++ b)
  unfolding exchanges_from
  stray_unseen (host q) h =
      exchanges_append None a (host q ∷ b)
      ∙ ap (λ (l : List Entry). exchanges_of a ++ l) (waits_unseen b h (Some q) (waits_behind None a))
      ∙ sym (exchanges_append None a b)
  stray_unseen (device reply) h =
      exchanges_append None a (device reply ∷ b)
      ∙ rw (waits_none a h) refl
      ∙ sym (exchanges_append None a b)
  stray_unseen reset h = absurd h

  -- a pair always gives its exchange, a reset its restart
  pub pair_seen : (q reply : List ℕ) → exchanges_of (a ++ host q ∷ device reply ∷ b) ≡ exchanges_of a ++ exchange q reply ∷ exchanges_of b
  unfolding exchanges_from
  pair_seen q reply = exchanges_append None a (host q ∷ device reply ∷ b)

  pub reset_seen : exchanges_of (a ++ reset ∷ b) ≡ exchanges_of a ++ restart ∷ exchanges_of b
  unfolding exchanges_from
  reset_seen = exchanges_append None a (reset ∷ b)
