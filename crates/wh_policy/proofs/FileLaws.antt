-- The laws of policy files.
use Rattle.std.proofs.Common.{ap, ◌≡◌, ◌⊎◌, ℕ, ◌≤◌, List, length, Option, Some, None, Result, Ok, Err, refl, sym, ◌∙◌, arith, inl, inr}
use Rattle.std.specs.Str.{IsUtf8, is_utf8}
use Rattle.std.proofs.lemmas.Bool.{cases_Bool, cases_lt, lt-ltb, both_ways, false≢true}
use Rattle.std.proofs.lemmas.Option.{same_Some, none-some}
use Rattle.std.proofs.lemmas.Str.{is_utf8-from_IsUtf8, IsUtf8-from_is_utf8}
use Rattle.toml.specs.Data.{Members}
use Rattle.toml.specs.Parse.{parse_document}
use Rattle.wh_policy.specs.declared.fault.PolicyFault.{PolicyFault}
use Rattle.wh_policy.specs.declared.fault.PolicyFault.TheVariants.{NotToml}
use Rattle.wh_policy.specs.declared.policy.Policy.{Policy}
use Rattle.wh_policy.specs.Document.{document_of}
use Rattle.wh_policy.specs.Laws.{IsAcceptedExactly, FaultsAreThere, IsNotTomlExactly, IsReadAsWritten, PoliciesAreSound}
use Rattle.wh_policy.specs.Policy.{policy_of_table, read_policy}
use Rattle.wh_policy.specs.Written.{IsDocument}
use Rattle.wh_policy.proofs.DocumentLemmas.{document-text, document-no_text}
use Rattle.wh_policy.proofs.Judged.{at_ok, at_err, answers}
use Rattle.wh_policy.proofs.PolicyLaws.{IsRead, policy_of_table-judged}
use Rattle.wh_policy.proofs.WrittenOnce.{writes_once}
use Rattle.wh_policy.proofs.ReadLaws.{is_free, writes, is_sound}

document-at : (bytes : List ℕ) (ms : Members) → IsDocument bytes ms → document_of bytes ≡ Ok ms
document-at bytes ms doc = document-text bytes doc.short doc.text ∙ rw doc.toml refl

same_document : (bytes : List ℕ) (ms ns : Members) → IsDocument bytes ms → IsDocument bytes ns → ms ≡ ns
same_document bytes ms ns a b = same_Some ms ns (sym a.toml ∙ b.toml)

-- with a document the answer is that of its table
pub at_document : (bytes : List ℕ) (ms : Members) → IsDocument bytes ms → read_policy bytes ≡ policy_of_table ms
unfolding read_policy
at_document bytes ms doc = rw (document-at bytes ms doc) refl

-- a file without one
abbrev IsNoDocument : List ℕ → Type 0
IsNoDocument bytes = (read_policy bytes ≡ Err NotToml) × ((ms : Members) → ¬ IsDocument bytes ms)

no_document : (bytes : List ℕ) → document_of bytes ≡ Err NotToml → ((ms : Members) → ¬ IsDocument bytes ms) → IsNoDocument bytes
unfolding read_policy
no_document bytes refused none = (rw refused refl, none)

ok_or_err : (policy : Policy) (fault : PolicyFault) → ◌≡◌ {A = Result Policy PolicyFault} (Ok policy) (Err fault) → ⊥
ok_or_err policy fault e = cc

parsed_or_not : (bytes : List ℕ) → length bytes ≤ 65536 → IsUtf8 bytes → (found : Option Members) → parse_document bytes ≡ found → ((ms : Members) × IsDocument bytes ms) ⊎ IsNoDocument bytes
parsed_or_not bytes short text None e =
    inr (no_document bytes (document-text bytes short text ∙ rw e refl) (λ ms doc. none-some ms (sym e ∙ doc.toml)))
parsed_or_not bytes short text (Some ms) e = inl (ms, record { short = short; text = text; toml = e })

document_or_not : (bytes : List ℕ) → ((ms : Members) × IsDocument bytes ms) ⊎ IsNoDocument bytes
unfolding document_of
document_or_not bytes = elim (cases_lt 65536 (length bytes)) [
  | inl long ↦ inr (no_document bytes (rw (lt-ltb 65536 (length bytes) long) refl) (λ ms doc. omega (arith, long, doc.short)))
  | inr short ↦ elim (cases_Bool (is_utf8 bytes)) [
    | inl text ↦ parsed_or_not bytes short (IsUtf8-from_is_utf8 bytes text) (parse_document bytes) refl
    | inr other ↦ inr (no_document bytes (document-no_text bytes short (λ text. both_ways _ other (is_utf8-from_IsUtf8 bytes text))) (λ ms doc. both_ways _ other (is_utf8-from_IsUtf8 bytes doc.text)))
  ]
]

-- how the answer stands to a table
pub ok_is : (bytes : List ℕ) (policy : Policy) → read_policy bytes ≡ Ok policy → (ms : Members) × IsDocument bytes ms × IsRead ms policy
ok_is bytes policy e = elim (document_or_not bytes) [
  | inl p ↦ (p.0, p.1, at_ok (policy_of_table p.0) policy (policy_of_table-judged p.0) (sym (at_document bytes p.0 p.1) ∙ e))
  | inr p ↦ absurd (ok_or_err policy NotToml (sym e ∙ p.0))
]

pub read_is : (bytes : List ℕ) (ms : Members) (policy : Policy) → IsDocument bytes ms → read_policy bytes ≡ Ok policy → IsRead ms policy
read_is bytes ms policy doc e = at_ok (policy_of_table ms) policy (policy_of_table-judged ms) (sym (at_document bytes ms doc) ∙ e)

pub faults_are_there : FaultsAreThere
faults_are_there bytes ms fault doc e = at_err (policy_of_table ms) fault (policy_of_table-judged ms) (sym (at_document bytes ms doc) ∙ e)

pub not_toml_exactly : IsNotTomlExactly
not_toml_exactly bytes = (
  λ e ms doc. faults_are_there bytes ms NotToml doc e tt,
  λ none. elim (document_or_not bytes) [ inl p ↦ absurd (none p.0 p.1) | inr p ↦ p.0 ],
)

pub accepted_exactly : IsAcceptedExactly
accepted_exactly bytes = (
  λ ok. elim (answers (read_policy bytes)) [
    | inl p ↦ let (ms, doc, read) = ok_is bytes p.0 p.1 in (ms, doc, is_free ms p.0 read)
    | inr p ↦ absurd (false≢true (rw p.1 at ok))
  ],
  λ p. elim (answers (read_policy bytes)) [
    | inl q ↦ rw q.1 refl
    | inr q ↦ absurd (faults_are_there bytes p.0 q.0 p.1 q.1 (p.2 q.0))
  ],
)

pub read_as_written : IsReadAsWritten
read_as_written bytes policy = (
  λ e. let (ms, doc, read) = ok_is bytes policy e in (ms, doc, is_free ms policy read, writes ms policy read),
  λ p. elim (answers (read_policy bytes)) [
    | inl q ↦ q.1 ∙ ap (λ (r : Policy). Ok r) (writes_once p.0 q.0 policy (writes p.0 q.0 (read_is bytes p.0 q.0 p.1 q.1)) p.3)
    | inr q ↦ absurd (faults_are_there bytes p.0 q.0 p.1 q.1 (p.2 q.0))
  ],
)

pub policies_are_sound : PoliciesAreSound
policies_are_sound bytes policy e = let (ms, doc, read) = ok_is bytes policy e in is_sound ms policy read
