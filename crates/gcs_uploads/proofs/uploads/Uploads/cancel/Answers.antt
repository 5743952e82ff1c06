use Rattle.std.proofs.Common.{◌≡◌, ◌∙◌, sym, ap, Some}
use Rattle.std.proofs.lemmas.Result.{IfErr-weaker, IfOk-weaker, on_err_weaker}
use Rattle.gcs_meaning.specs.Uploads.{upload_of, with_upload}
use Rattle.gcs_meaning.specs.Cancel.{cancel_at, cancelled}
use Rattle.gcs_uploads.proofs.Called.{called_done, called_refused, called_same}
use Rattle.gcs_uploads.proofs.Earliest.{begun_after_cancel, earliest_called}
use Rattle.gcs_uploads.proofs.uploads.Uploads.cancel.Goals as goal

pub returns-clause-done : goal.returns-clause-done
unfolding cancel_at
returns-clause-done c =
    let at : upload_of c.args.number c.args.self.now ≡ Some c.in-Some.upload.now = ap (upload_of c.args.number) (sym c.self.view_is) ∙ sym c.in-Some.ensures.value in
    let left : (c.get_mut.follows.lender c.cancel.new.upload).entries ≡ with_upload c.args.number c.cancel.new.upload c.args.self.now = (c.get_mut.follows.holds c.cancel.new.upload).0 ∙ ap (with_upload c.args.number c.cancel.new.upload) c.self.view_is in
    IfOk-weaker c.cancel.result _ _
    (called_done cancelled c.args.number c.args.self.now (c.get_mut.follows.lender c.cancel.new.upload).entries c.in-Some.upload.now c.cancel.new.upload at left)
    c.cancel.ensures.done

pub returns-clause-refused : goal.returns-clause-refused
unfolding cancel_at
returns-clause-refused c =
    let at : upload_of c.args.number c.args.self.now ≡ Some c.in-Some.upload.now = ap (upload_of c.args.number) (sym c.self.view_is) ∙ sym c.in-Some.ensures.value in
    IfErr-weaker c.cancel.result _ _
    (called_refused cancelled c.args.number c.args.self.now c.in-Some.upload.now at)
    c.cancel.ensures.refused

pub returns-clause-unchanged : goal.returns-clause-unchanged
returns-clause-unchanged c =
    let at : upload_of c.args.number c.args.self.now ≡ Some c.in-Some.upload.now = ap (upload_of c.args.number) (sym c.self.view_is) ∙ sym c.in-Some.ensures.value in
    let left : (c.get_mut.follows.lender c.cancel.new.upload).entries ≡ with_upload c.args.number c.cancel.new.upload c.args.self.now = (c.get_mut.follows.holds c.cancel.new.upload).0 ∙ ap (with_upload c.args.number c.cancel.new.upload) c.self.view_is in
    let same = called_same c.args.number c.args.self.now (c.get_mut.follows.lender c.cancel.new.upload).entries c.in-Some.upload.now c.cancel.new.upload at left in
    on_err_weaker c.cancel.result same c.cancel.ensures.unchanged

pub invariant_of-self-2 : goal.invariant_of-self-2
invariant_of-self-2 c =
    earliest_called c.args.number c.self.inside.earliest c.in-Some.upload.now c.cancel.new.upload c.self.inside.by_number.entries (c.get_mut.follows.lender c.cancel.new.upload).entries
    (sym c.in-Some.ensures.value) (c.get_mut.follows.holds c.cancel.new.upload).0
    (begun_after_cancel c.self.inside.earliest c.cancel.result c.in-Some.upload.now c.cancel.new.upload c.cancel.ensures.done c.cancel.ensures.unchanged)
    c.self.invariant
