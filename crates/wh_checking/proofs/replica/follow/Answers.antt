use Rattle.std.proofs.Common.{◌≡◌, true, false, Some, None, Ok, Err, sym, ap, subst, ◌∙◌}
use Rattle.std.specs.Prelude.{bytes_eq}
use Rattle.std.proofs.lemmas.Slice.Eq.{bytes_eq-Decides}
use Rattle.wh_batch.specs.BatchKind.{command_kind_of_word}
use Rattle.wh_admission.specs.Admission.{kept_bytes}
use Rattle.wh_sql.specs.Answers.{state_of}
use Rattle.wh_engine.specs.Answered.{IsAnswered}
use Rattle.wh_checking.specs.Replica.{IsOpenFor}
use Rattle.wh_checking.proofs.Followed.{sent, no_kind, other_bytes, is_accepted, is_again, is_refused}
use Rattle.wh_checking.proofs.replica.follow.Goals as goal

pub returns-in_default : goal.returns-in_default
returns-in_default g c limits commands ready =
    let none : command_kind_of_word c.args.row.kind ≡ None = sym (ap command_kind_of_word c.as_str.ensures) ∙ sym c.from_word.ensures ∙ c.in_default.is in
    no_kind limits commands c.args.row (λ list. IsOpenFor g.M.Store limits list c.args.engine.now) ready.1.admitted none

pub returns-then-not-keeps_all : goal.returns-then-not-keeps_all
returns-then-not-keeps_all g c limits commands ready =
    let told : command_kind_of_word c.args.row.kind ≡ Some c.in-Some.kind = sym (ap command_kind_of_word c.as_str.ensures) ∙ sym c.from_word.ensures ∙ c.in-Some.is in
    let differ : bytes_eq (kept_bytes c.in-Some.kind c.args.row.bytes) c.args.row.bytes ≡ false = sym c.keeps_all.ensures ∙ c.if-not-keeps_all.true in
    other_bytes limits commands c.args.row (λ list. IsOpenFor g.M.Store limits list c.args.engine.now) ready.1.admitted c.in-Some.kind told
    (λ same. let equal = (bytes_eq-Decides (kept_bytes c.in-Some.kind c.args.row.bytes) c.args.row.bytes).1 same in let never : true ≡ false = sym equal ∙ differ in cc)

pub returns-in-Ok-Accepted : goal.returns-in-Ok-Accepted
returns-in-Ok-Accepted g c limits commands ready =
    let told : command_kind_of_word c.args.row.kind ≡ Some c.in-Some.kind = sym (ap command_kind_of_word c.as_str.ensures) ∙ sym c.from_word.ensures ∙ c.in-Some.is in
    let kept : kept_bytes c.in-Some.kind c.args.row.bytes ≡ c.args.row.bytes = (bytes_eq-Decides (kept_bytes c.in-Some.kind c.args.row.bytes) c.args.row.bytes).0 (sym c.keeps_all.ensures ∙ c.if-not-keeps_all.false) in
    let said = c.in-Ok-Accepted.ensures.answered (ready.0 c.apply.new.self.tables.conn) limits commands ready.1 in
    is_accepted limits commands c.args.row (λ list. IsOpenFor g.M.Store limits list c.apply.new.self) ready.1.admitted c.in-Some.kind told kept c.in-Ok-Accepted.receipt c.says.result (said.0 ∙ ap Ok c.in-Ok-Accepted.field-0-is) c.says.ensures (ready.0, said.1)

pub returns-in-Ok-Already : goal.returns-in-Ok-Already
returns-in-Ok-Already g c limits commands ready =
    let told : command_kind_of_word c.args.row.kind ≡ Some c.in-Some.kind = sym (ap command_kind_of_word c.as_str.ensures) ∙ sym c.from_word.ensures ∙ c.in-Some.is in
    let said = c.in-Ok-Already.ensures.answered (ready.0 c.apply.new.self.tables.conn) limits commands ready.1 in
    is_again limits commands c.args.row (λ list. IsOpenFor g.M.Store limits list c.apply.new.self) ready.1.admitted c.in-Some.kind told c.in-Ok-Already.field-0-0 (said.0 ∙ ap Ok c.in-Ok-Already.field-0-is)

pub returns-in-Err-Refused : goal.returns-in-Err-Refused
returns-in-Err-Refused g c limits commands ready =
    let told : command_kind_of_word c.args.row.kind ≡ Some c.in-Some.kind = sym (ap command_kind_of_word c.as_str.ensures) ∙ sym c.from_word.ensures ∙ c.in-Some.is in
    let said = subst (λ f. IsAnswered limits commands (sent c.args.row c.in-Some.kind) (Err f) c.apply.new.self.session (state_of g.M.Store c.apply.new.self.tables)) c.in-Err-Refused.field-0-is
    (c.in-Err-Refused.ensures.answered (ready.0 c.apply.new.self.tables.conn) limits commands ready.1) in
    is_refused limits commands c.args.row (λ list. IsOpenFor g.M.Store limits list c.apply.new.self) ready.1.admitted c.in-Some.kind told c.in-Err-Refused.field-0-0 said.0
