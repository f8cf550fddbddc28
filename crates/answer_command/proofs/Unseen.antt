-- In authentication stage the image is not looked at: a command is answered by the latched ID, and everything is erased or nothing is. Assumes nothing.
use mathlib.Core.Bool.{Bool, true, false, cond}
use mathlib.Core.List.{List}
use mathlib.Core.Logic.{◌⊎◌, inl, inr}
use Rattle.std.specs.Prelude.{Option, None, Some, Ok, Err}
use mathlib.Core.Path.{◌≡◌, refl, sym, ap, subst, ◌∙◌}
use Prim.Native.Nat.{ℕ}
use Rattle.verdict.specs.declared.Reason.{Reason}
use Rattle.verdict.specs.Check.{first_fault, verdict_of}
use Rattle.id_code.specs.Identity.{total_erase}
use Rattle.profile.specs.declared.Profile.{Profile}
use Rattle.packet_fields.specs.declared.Com.TheVariants.{Authenticate}
use Rattle.packet_fields.specs.Fields.{com_in, com_of, code_at, info_of}
use Rattle.flash.specs.declared.Act.TheVariants.{Nothing, EraseAll}
use Rattle.state.specs.declared.Stage.TheVariants.{Authentication, Command}
use Rattle.state.specs.declared.State.{State}
use Rattle.state.specs.State.{fresh_state, with_held}
use Rattle.check_command.specs.Commands.{command_checks}
use Rattle.check_command.proofs.Granted.{in_authentication}
use Rattle.answer.specs.Answer.{Answer, moved}
use Rattle.answer_command.specs.Grants.{told, entered, grant_of, decided, answer_command}

module _ (p : Profile) (st : State) (q : List ℕ) (stage : st.stage ≡ Authentication) where
  -- what is answered, by the first fault: no image is in it
  abbrev tried : Option Reason → Answer
  tried None = entered p st q
  tried (Some reason) = told q (Err reason) Nothing (with_held 0 st)

  -- nothing but 30h is granted
  lets_authenticate : first_fault (command_checks p st q) ≡ None → com_of (code_at q) ≡ Authenticate
  unfolding com_of com_in
  lets_authenticate e = ap com_of (in_authentication p st q e stage)

  tried_is : (image : List ℕ) → answer_command p image st q ≡ tried (first_fault (command_checks p st q))
  unfolding answer_command decided grant_of
  tried_is image = by_fault (first_fault (command_checks p st q)) refl
    where
      by_fault : (f : Option Reason) → first_fault (command_checks p st q) ≡ f → decided p image st q (verdict_of f) ≡ tried f
      by_fault None e = ap (grant_of p image st q) (lets_authenticate e)
      by_fault (Some reason) e = refl

  pub authentication_unseen : (image image' : List ℕ) → answer_command p image st q ≡ answer_command p image' st q
  authentication_unseen image image' = tried_is image ∙ sym (tried_is image')

  -- what holds of the three answers holds of the one that is given: after a total erase, with the ID, and refused
  pub authentication_answers : (P : Answer → Type 0) → P (told q (Ok tt) EraseAll (fresh_state p)) → P (told q (Ok tt) Nothing (moved Command st))
      → ((reason : Reason) → P (told q (Err reason) Nothing (with_held 0 st))) → (image : List ℕ) → P (answer_command p image st q)
  unfolding entered
  authentication_answers P erased admitted refused image = subst P (sym (tried_is image)) (by_fault (first_fault (command_checks p st q)))
    where
      by_test : (t : Bool) → P (cond t (told q (Ok tt) EraseAll (fresh_state p)) (told q (Ok tt) Nothing (moved Command st)))
      by_test true = erased
      by_test false = admitted

      by_fault : (f : Option Reason) → P (tried f)
      by_fault None = by_test (total_erase st.id (info_of q))
      by_fault (Some reason) = refused reason

  pub authentication_acts : (image : List ℕ) → ((answer_command p image st q).act ≡ Nothing) ⊎ ((answer_command p image st q).act ≡ EraseAll)
  authentication_acts image =
      authentication_answers (λ (a : Answer). (a.act ≡ Nothing) ⊎ (a.act ≡ EraseAll)) (inr refl) (inl refl) (λ reason. inl refl) image
