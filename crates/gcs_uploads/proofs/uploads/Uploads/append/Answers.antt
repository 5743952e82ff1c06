use Rattle.std.proofs.Common.{◌≡◌, ◌∙◌, sym, ap, Some}
use Rattle.std.proofs.lemmas.Result.{IfErr-weaker, IfOk-weaker, on_err_weaker}
use Rattle.gcs_meaning.specs.Uploads.{upload_of, with_upload}
use Rattle.gcs_meaning.specs.Append.{append_at, appended}
use Rattle.gcs_uploads.proofs.Called.{called_done, called_refused, called_same}
use Rattle.gcs_uploads.proofs.Earliest.{begun_after_append, earliest_called}
use Rattle.gcs_uploads.proofs.uploads.Uploads.append.Goals as goal

pub returns-clause-done : goal.returns-clause-done
unfolding append_at
returns-clause-done c =
    let at : upload_of c.args.number c.args.self.now ≡ Some c.in-Some.upload.now = ap (upload_of c.args.number) (sym c.self.view_is) ∙ sym c.in-Some.ensures.value in
    let left : (c.get_mut.follows.lender c.append.new.upload).entries ≡ with_upload c.args.number c.append.new.upload c.args.self.now = (c.get_mut.follows.holds c.append.new.upload).0 ∙ ap (with_upload c.args.number c.append.new.upload) c.self.view_is in
    IfOk-weaker c.append.result _ _
    (called_done (λ upload. appended upload c.args.offset c.args.total c.args.content.now) c.args.number c.args.self.now (c.get_mut.follows.lender c.append.new.upload).entries c.in-Some.upload.now c.append.new.upload at left)
    c.append.ensures.done

pub returns-clause-refused : goal.returns-clause-refused
unfolding append_at
returns-clause-refused c =
    let at : upload_of c.args.number c.args.self.now ≡ Some c.in-Some.upload.now = ap (upload_of c.args.number) (sym c.self.view_is) ∙ sym c.in-Some.ensures.value in
    IfErr-weaker c.append.result _ _
    (called_refused (λ upload. appended upload c.args.offset c.args.total c.args.content.now) c.args.number c.args.self.now c.in-Some.upload.now at)
    c.append.ensures.refused

pub returns-clause-unchanged : goal.returns-clause-unchanged
returns-clause-unchanged c =
    let at : upload_of c.args.number c.args.self.now ≡ Some c.in-Some.upload.now = ap (upload_of c.args.number) (sym c.self.view_is) ∙ sym c.in-Some.ensures.value in
    let left : (c.get_mut.follows.lender c.append.new.upload).entries ≡ with_upload c.args.number c.append.new.upload c.args.self.now = (c.get_mut.follows.holds c.append.new.upload).0 ∙ ap (with_upload c.args.number c.append.new.upload) c.self.view_is in
    let same = called_same c.args.number c.args.self.now (c.get_mut.follows.lender c.append.new.upload).entries c.in-Some.upload.now c.append.new.upload at left in
    on_err_weaker c.append.result same c.append.ensures.unchanged

pub invariant_of-self-2 : goal.invariant_of-self-2
invariant_of-self-2 c =
    earliest_called c.args.number c.self.inside.earliest c.in-Some.upload.now c.append.new.upload c.self.inside.by_number.entries (c.get_mut.follows.lender c.append.new.upload).entries
    (sym c.in-Some.ensures.value) (c.get_mut.follows.holds c.append.new.upload).0
    (λ within last. begun_after_append c.self.inside.earliest c.append.result c.in-Some.upload.now c.append.new.upload c.args.offset c.args.total c.args.content.now c.append.ensures.done c.append.ensures.unchanged within)
    c.self.invariant
