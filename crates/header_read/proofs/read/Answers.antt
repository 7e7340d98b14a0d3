-- `read` meets its contract, by the refusal of reading into bytes. Assumes nothing.
use Prim.Native.Nat.{ℕ}
use mathlib.Core.Path.{◌≡◌, refl, sym, ap, ◌∙◌}
use mathlib.Core.List.{List}
use borrow.Author.Rules.{rules}
use lib.ListN.{replicate}
use Rattle.std.specs.Prelude.{Err}
use Rattle.refusals.proofs.Refusals.{is_some_number}
use Rattle.setting.specs.declared.Kind.{Kind}
use Rattle.setting_bytes.specs.Settings.{setting_length, setting_of}
use Rattle.header_check.specs.OnPaper.{Refusal}
use Rattle.header_check.specs.Checking.{read_refusal, refusal_by}
use Rattle.header_read.specs.Reader.{reading_in, into_refused, into_memory}
use Rattle.header_read.proofs.Calls.{refused, accepted, refusal_into, when_accepted}
use Rattle.header_read.proofs.read.Goals as goal

-- what was answered is the packet's refusal, and its number
module _ (kind : Kind) (pid : ℕ) (p : List ℕ) (r : Refusal) (told : r ≡ into_refused kind pid p (replicate setting_length 0)) where
  shows : r ≡ refusal_by (read_refusal kind pid p) p
  shows = told ∙ refusal_into kind pid p (replicate setting_length 0) refl

  number_shown : read_refusal kind pid p ≡ r.number
  unfolding refusal_by
  number_shown = sym (ap (λ (x : Refusal). x.number) shows)

pub returns-in_err-read_into : goal.returns-in_err-read_into
returns-in_err-read_into c =
    let s = c.args in
    let why = c.in_err-read_into.field-0.0 in
    let passed_up : c.from_residual.result ≡ Err why = search rules in
    let told = c.in_err-read_into.ensures.value in
    ap reading_in passed_up
    ∙ refused s.kind s.pid s.packet.now (λ none. is_some_number why.refusal (sym (number_shown s.kind s.pid s.packet.now _ told) ∙ none)) (reading_in (Err why))
    (shows s.kind s.pid s.packet.now _ told) refl

pub returns : goal.returns
returns c =
    let s = c.args in
    let told = c.in_ok-read_into.ensures.value in
    let none = number_shown s.kind s.pid s.packet.now _ told in
    let left : c.read_into.new.setting ≡ into_memory s.kind s.pid s.packet.now (replicate setting_length 0) = c.read_into.ensures.setting_after in
    accepted s.kind s.pid s.packet.now none _ (shows s.kind s.pid s.packet.now _ told)
    (c.setting_of.ensures ∙ ap setting_of left ∙ when_accepted s.kind s.pid s.packet.now (replicate setting_length 0) refl none)
