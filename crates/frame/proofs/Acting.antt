-- What happens for one set leaves the others, and a spared piece shows what it did.
use Rattle.std.proofs.Common.{◌≡◌, ℕ, zero, suc, ◌/◌, Some, sym, refl, ap, ◌∙◌, subst, inl, inr}
use Rattle.memory.specs.declared.buffer.Buffer.{Buffer}
use Rattle.owners.specs.declared.table.Owner.{Owner}
use Rattle.owners.specs.Claims.{owner}
use Rattle.frame.specs.Worlds.{World, Owned, bytes, Act, write, give, queue, reap, after, For, Spares, Sparing, Unaltered}
use Rattle.frame.proofs.Written.{same_owner, write_owned, write_quiet, write_bytes}
use Rattle.frame.proofs.Putting.{put_owned, put_quiet, put_bytes}
use Rattle.frame.proofs.Reaping.{reap_owned, held_other, table_other, table_some}
use Rattle.frame.proofs.Queueing.{queue_took, queue_from, queue_held, queue_owned}

pub act_owned : (w : World) (x : Act w) → Owned w → Owned (after w x)
act_owned w (write i j b at xs e f) o = write_owned w i j b at xs o e f
act_owned w (give pages a xs v) o = put_owned w pages a xs o v
act_owned w (queue s first ps h t q) o = queue_owned w s first ps h t o q
act_owned w (reap i j b e) o = reap_owned w i j b o e

pub act_apart : (w : World) (x : Act w) → Owned w → (s : ℕ) → (For w x s → ⊥) → Unaltered s w (after w x)
act_apart w (write i j b at xs e f) o s ne = record {
  pieces = λ c. refl;
  owners = λ c q g. g;
  no_more = λ c q g. g;
  pages = λ c x g. write_quiet w i j b at xs o e f (x / 4096) (λ h. ne (same_owner s c i j (sym g ∙ h)).0) x refl;
  shown = λ c d g. write_bytes w i j b at xs o e f s c d (λ u. absurd (ne u)) g;
}
act_apart w (give pages a xs v) o s ne = record {
  pieces = λ c. refl;
  owners = λ c q g. g;
  no_more = λ c q g. g;
  pages = λ c x g. put_quiet w pages a xs v (x / 4096) (owner s c) g x refl;
  shown = λ c d g. put_bytes w pages a xs o v s c d g;
}
act_apart w (queue i first ps h t q) o s ne = record {
  pieces = λ c. q.old s c (λ u. absurd (ne u));
  owners = λ c x g. (queue_took w i first ps h t o q).kept x (owner s c) g;
  no_more = λ c x g. elim (queue_from w i first ps h t o q x (owner s c) g)
      [ inl y ↦ y | inr y ↦ absurd (ne (ap (λ (r : Owner). r.set) y.2)) ];
  pages = λ c x g. refl;
  shown = λ c d g. refl;
}
act_apart w (reap i j b e) o s ne = record {
  pieces = λ c. held_other w.held i j s c (λ u. absurd (ne u));
  owners = λ c q g. table_other w i j b o e s c q (λ u. absurd (ne u)) g;
  no_more = λ c q g. (table_some w i j b o e s c q g).0;
  pages = λ c x g. refl;
  shown = λ c d g. refl;
}

pub act_spares : (w : World) (x : Act w) → Owned w → (i j : ℕ) (b : Buffer) → Spares w x i j → w.held i j ≡ Some b
    → ((after w x).held i j ≡ Some b) × (bytes (after w x).memory b ≡ bytes w.memory b)
act_spares w (write a c d at xs e f) o i j b s h = (h, write_bytes w a c d at xs o e f i j b s h)
act_spares w (give pages a xs v) o i j b s h = (h, put_bytes w pages a xs o v i j b h)
act_spares w (queue a first ps g t q) o i j b s h = (queue_held w a first ps g t q i j b h, refl)
act_spares w (reap a c d e) o i j b s h = (held_other w.held a c i j s ∙ h, refl)

pub steady : (n i j : ℕ) (w v : World) (b : Buffer) → Owned w → w.held i j ≡ Some b → Sparing n i j w v
    → Owned v × (v.held i j ≡ Some b) × (bytes v.memory b ≡ bytes w.memory b)
steady zero i j w v b o h e = (subst Owned e o, subst (λ (u : World). u.held i j ≡ Some b) e h, subst (λ (u : World). bytes u.memory b ≡ bytes w.memory b) e refl)
steady (suc n) i j w v b o h r =
    let x = r.0 in
    let a = act_spares w x o i j b r.1 h in
    let s = steady n i j (after w x) v b (act_owned w x o) a.0 r.2 in
    (s.0, s.1, s.2 ∙ a.1)
