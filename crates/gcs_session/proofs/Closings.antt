-- How a connection ends.
use Rattle.std.proofs.Common.{◌≡◌, ℕ, Bool, true, false, List, [], ◌++◌, Some, refl, sym, subst, append-nil}
use Rattle.std.specs.Prelude.{if◌then◌else◌}
use Rattle.std.specs.List.{list_all}
use Rattle.gcs_http_in.specs.declared.limits.Limits.{Limits}
use Rattle.gcs_http_in.specs.Lines.{is_end_byte}
use Rattle.gcs_http_in.specs.Message.{Message, AllKeep, Spells}
use Rattle.gcs_http_in.proofs.StandsReads.{reads}
use Rattle.gcs_session.specs.declared.ends.SessionEnd.TheVariants.{Closed, Cut, Ended, NoMemory, ReadFault, WriteFault}
use Rattle.gcs_session.specs.declared.session.Session.{Session}
use Rattle.gcs_session.specs.declared.ends.SessionEnd.{SessionEnd}
use Rattle.gcs_session.specs.Along.{AlongTo, IsAlong}
use Rattle.gcs_session.specs.Connection.{IsServed, Outside}
use Rattle.gcs_session.specs.Session.{IsClosedBy, IsSession, limits_in}

-- the source ended
pub along-ended : (limits : Limits) (caller : ℕ) (a b : Outside) (s : Session) (started : Bool) → IsAlong limits caller a b s [] → s.closed ≡ false
    → ((bytes : List ℕ) (messages : List Message) (text drained rest : List ℕ) → IsSession s bytes messages text drained → Spells (limits_in s) bytes messages rest → started ≡ list_all is_end_byte rest)
    → IsServed limits caller a b true (if started then Ended else Cut)
along-ended limits caller a b s started x stays starts =
    let keep : AllKeep x.messages = subst (λ c. IsClosedBy c x.messages) stays x.session.0.closed in
    let whole = reads s.framer x.fed x.messages x.session.0.current x.session.0.stands x.session.1 in
    let starts-is : started ≡ list_all is_end_byte whole.0 = starts x.fed x.messages x.text x.text whole.0 x.session whole.1 in
    let spelled : Spells limits (x.fed ++ []) x.messages whole.0 = subst (λ l. Spells limits l x.messages whole.0) (sym (append-nil x.fed)) (subst (λ l. Spells l x.fed x.messages whole.0) x.limits_are whole.1) in
    by-start started x whole.0 starts-is keep spelled
  where
    by-start : (started : Bool) (x : IsAlong limits caller a b s []) → (rest : List ℕ) → started ≡ list_all is_end_byte rest → AllKeep x.messages → Spells limits (x.fed ++ []) x.messages rest → IsServed limits caller a b true (if started then Ended else Cut)
    by-start true x rest is keep spelled = record {
      input = x.fed ++ [];
      output = x.text;
      moments = x.moments;
      moved = x.moved;
      messages = x.messages;
      rest = rest;
      text = x.text;
      spelled = spelled;
      served = x.served;
      written = refl;
      ends = (refl, keep, sym is);
    }
    by-start false x rest is keep spelled = record {
      input = x.fed ++ [];
      output = x.text;
      moments = x.moments;
      moved = x.moved;
      messages = x.messages;
      rest = rest;
      text = x.text;
      spelled = spelled;
      served = x.served;
      written = refl;
      ends = (refl, keep, sym is);
    }

-- what a piece leaves where the connection has ended
pub along-over : (end : SessionEnd) (taken : ℕ) (limits : Limits) (caller : ℕ) (a b : Outside) (s : Session) → AlongTo (Some end) taken limits caller a b s → IsServed limits caller a b false end
along-over Closed taken limits caller a b s x = x false
along-over WriteFault taken limits caller a b s x = x
along-over Ended taken limits caller a b s x = absurd x
along-over Cut taken limits caller a b s x = absurd x
along-over ReadFault taken limits caller a b s x = absurd x
along-over NoMemory taken limits caller a b s x = absurd x
