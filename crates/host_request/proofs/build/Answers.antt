-- `host_request::build` meets its contract. Its tests are the request's checks, and each arm places the request's number and information.
-- Assumes nothing.
use mathlib.Core.Path.{sym, ap, ◌∙◌}
use mathlib.Core.Logic.{inl, inr}
use Rattle.numbers.proofs.Laws.{four_bytes}
use Rattle.host_request.specs.Request.{kind_for, information_for}
use Rattle.host_request.proofs.Laws.{amount_refused, over_refused, lent_behind, range_behind, arm_builds}
use Rattle.host_request.proofs.build.Goals as goal

pub returns-then-not-is_enclosable : goal.returns-then-not-is_enclosable
returns-then-not-is_enclosable c =
    let a = c.args in
    amount_refused a.request a.bytes.now a.buffer.now (sym c.is_enclosable.ensures ∙ c.if-not-is_enclosable.true)

pub returns-then-is_over : goal.returns-then-is_over
returns-then-is_over c =
    let a = c.args in
    over_refused a.request a.bytes.now a.buffer.now (sym c.is_enclosable.ensures ∙ c.if-not-is_enclosable.false)
    (sym c.is_over.ensures ∙ c.if-is_over.true)

pub returns-in-Inquiry : goal.returns-in-Inquiry
returns-in-Inquiry c =
    arm_builds c.is_enclosable.ensures c.if-not-is_enclosable.false c.is_over.ensures c.if-is_over.false (sym (ap kind_for c.in-Inquiry.is)) c.number-code.ensures
    (lent_behind _ _ (sym c.is_enclosable.ensures ∙ c.if-not-is_enclosable.false) (inl c.in-Inquiry.is)) c.put.ensures

pub returns-in-Erase : goal.returns-in-Erase
returns-in-Erase c =
    arm_builds c.is_enclosable.ensures c.if-not-is_enclosable.false c.is_over.ensures c.if-is_over.false (sym (ap kind_for c.in-Erase.is)) c.number-code.ensures
    (c.range_bytes.ensures ∙ range_behind _ _ _ _ (inl c.in-Erase.is)) c.put-in-Erase.ensures

pub returns-in-Write : goal.returns-in-Write
returns-in-Write c =
    arm_builds c.is_enclosable.ensures c.if-not-is_enclosable.false c.is_over.ensures c.if-is_over.false (sym (ap kind_for c.in-Write.is)) c.number-code.ensures
    (c.range_bytes-in-Write.ensures ∙ range_behind _ _ _ _ (inr (inl c.in-Write.is))) c.put-in-Write.ensures

pub returns-in-Read : goal.returns-in-Read
returns-in-Read c =
    arm_builds c.is_enclosable.ensures c.if-not-is_enclosable.false c.is_over.ensures c.if-is_over.false (sym (ap kind_for c.in-Read.is)) c.number-code.ensures
    (c.range_bytes-in-Read.ensures ∙ range_behind _ _ _ _ (inr (inr c.in-Read.is))) c.put-in-Read.ensures

pub returns-in-Authenticate : goal.returns-in-Authenticate
returns-in-Authenticate c =
    arm_builds c.is_enclosable.ensures c.if-not-is_enclosable.false c.is_over.ensures c.if-is_over.false (sym (ap kind_for c.in-Authenticate.is)) c.number-code.ensures
    (lent_behind _ _ (sym c.is_enclosable.ensures ∙ c.if-not-is_enclosable.false) (inr (inl c.in-Authenticate.is))) c.put-in-Authenticate.ensures

pub returns-in-Baud : goal.returns-in-Baud
returns-in-Baud c =
    arm_builds c.is_enclosable.ensures c.if-not-is_enclosable.false c.is_over.ensures c.if-is_over.false (sym (ap kind_for c.in-Baud.is)) c.number-code.ensures
    (c.to_be_bytes.ensures ∙ four_bytes _ ∙ sym (ap (λ r. information_for r c.args.bytes.now) c.in-Baud.is)) c.put-in-Baud.ensures

pub returns-in-Signature : goal.returns-in-Signature
returns-in-Signature c =
    arm_builds c.is_enclosable.ensures c.if-not-is_enclosable.false c.is_over.ensures c.if-is_over.false (sym (ap kind_for c.in-Signature.is)) c.number-code.ensures
    (lent_behind _ _ (sym c.is_enclosable.ensures ∙ c.if-not-is_enclosable.false) (inr (inr (inl c.in-Signature.is)))) c.put-in-Signature.ensures

pub returns-in-Area : goal.returns-in-Area
returns-in-Area c =
    arm_builds c.is_enclosable.ensures c.if-not-is_enclosable.false c.is_over.ensures c.if-is_over.false (sym (ap kind_for c.in-Area.is)) c.number-code.ensures
    (sym (ap (λ r. information_for r c.args.bytes.now) c.in-Area.is)) c.put-in-Area.ensures

pub returns-in-WriteData : goal.returns-in-WriteData
returns-in-WriteData c =
    arm_builds c.is_enclosable.ensures c.if-not-is_enclosable.false c.is_over.ensures c.if-is_over.false (sym (ap kind_for c.in-WriteData.is)) c.number-code.ensures
    (lent_behind _ _ (sym c.is_enclosable.ensures ∙ c.if-not-is_enclosable.false) (inr (inr (inr c.in-WriteData.is)))) c.put-in-WriteData.ensures

pub returns-in-Next : goal.returns-in-Next
returns-in-Next c =
    arm_builds c.is_enclosable.ensures c.if-not-is_enclosable.false c.is_over.ensures c.if-is_over.false (sym (ap kind_for c.in-Next.is)) c.number-code.ensures
    (sym (ap (λ r. information_for r c.args.bytes.now) c.in-Next.is)) c.put-in-Next.ensures
