-- What the checks of a command answer where its form is right. Assumes nothing.
use mathlib.Core.Bool.{false}
use mathlib.Core.List.{List}
use mathlib.Core.Path.{◌≡◌, refl, sym, ap, ◌∙◌}
use Prim.Native.Nat.{ℕ}
use borrow.Author.Tests.{eq-eqb}
use Rattle.verdict.specs.Check.{first_fault, verdict_of}
use Rattle.verdict.proofs.FirstFault.{granted_then}
use Rattle.profile.specs.declared.Profile.{Profile}
use Rattle.packet_fields.specs.declared.Com.{Com}
use Rattle.state.specs.declared.Stage.{Stage}
use Rattle.state.specs.declared.State.{State}
use Rattle.packet_fields.specs.Fields.{com_of, code_at, info_count, info_length}
use Rattle.std.specs.Prelude.{Ok}
use Rattle.check_command.specs.Commands.{is_unknown, stage_wrong, form_checks, own_checks, known_checks}

-- the three checks of the form
pub form_right : (stage : Stage) (n : ℕ) (cmd : Com) (count : ℕ) → is_unknown cmd ≡ false → count ≡ info_length cmd → stage_wrong stage n ≡ false
    → verdict_of (first_fault (form_checks stage n cmd count)) ≡ Ok tt
unfolding first_fault form_checks
form_right stage n cmd count e l s = rw (e, eq-eqb count (info_length cmd) l, s) refl

-- the form of the packet's own command and length comes before that command's own checks
pub known_granted : (p : Profile) (st : State) (q : List ℕ) (n : ℕ) (cmd : Com) (count : ℕ) → n ≡ code_at q → cmd ≡ com_of (code_at q) → count ≡ info_count q
    → verdict_of (first_fault (form_checks st.stage n cmd count)) ≡ Ok tt
    → verdict_of (first_fault (known_checks p st q)) ≡ verdict_of (first_fault (own_checks p st cmd q))
unfolding known_checks
known_granted p st q n cmd count named known counted e =
    let form_read : form_checks st.stage (code_at q) (com_of (code_at q)) (info_count q) ≡ form_checks st.stage n cmd count = cc (named, known, counted) in
    granted_then (form_checks st.stage (code_at q) (com_of (code_at q)) (info_count q)) (own_checks p st (com_of (code_at q)) q)
    (ap (λ cs. verdict_of (first_fault cs)) form_read ∙ e)
    ∙ ap (λ (k : Com). verdict_of (first_fault (own_checks p st k q))) (sym known)
