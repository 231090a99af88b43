-- A sink's Sends and Collects, by what its code finds.
use Rattle.std.proofs.Common.{◌≡◌, ℕ, ◌+◌, ◌<◌, ◌≤◌, Bool, true, false, List, [], ◌∷◌, ◌++◌, is_some, length, Some, None, Option, sym, refl, ap, ◌∙◌, subst, arith}
use Rattle.std.proofs.lemmas.Bool.{both_ways}
use Rattle.link.specs.declared.term.Window.{Window}
use Rattle.link.specs.declared.term.SoundWindow.{SoundWindow}
use Rattle.link.specs.Numbered.{numbers_of}
use Rattle.link.specs.Meaning.{Meant, Kept, Follows}
use Rattle.link.specs.Terms.{bytes_of}
use Rattle.link.proofs.Sound.{burst_most}
use Rattle.devices.specs.declared.ahead.Ahead.{Ahead}
use Rattle.devices.specs.declared.sink.Sink.{Sink}
use Rattle.devices.specs.declared.since.Since.{Since}
use Rattle.devices.specs.declared.since.Since.TheVariants.{Otherwise}
use Rattle.devices.specs.Early.{early_from, early_of, kept_at, packets}
use Rattle.devices.specs.Stored.{taken_in, space_of, most_of}
use Rattle.devices.specs.Taken.{lacks}
use Rattle.devices.specs.Waiting.{Waits, AllWait}
use Rattle.devices.specs.Going.{waits_at, waits_more}
use Rattle.devices.specs.Keeping.{after_waits, after_past, kept_first, kept_gather, waits_of}
use Rattle.devices.specs.Since.{lacked_one}
use Rattle.devices.specs.Sinks.{sink_at, sink_of}
use Rattle.devices.specs.Sinking.{SinkPipe, Sent, lacking, dropped, kept, noted, short, SentIn}

-- a sink that was restarted with the numbers of v
module _ (s : Sink) (v : SoundWindow) (is : s.window ≡ Some v) where
  abbrev t : List (List ℕ)
  t = taken_in s.store

  abbrev space : ℕ
  space = space_of s.store

  abbrev most : ℕ
  most = most_of s.store

  numbers : numbers_of s.window ≡ Some v.window
  numbers = ap numbers_of is

  -- what waits ahead, under its own name and the numbers of v
  pub waiting_now : (a : Option Ahead) → s.ahead ≡ a → AllWait (Some v.window) t space most (early_of a)
  waiting_now a q = subst (λ x. AllWait (Some v.window) t space most (early_of x)) q (subst (λ n. AllWait n t space most (early_of s.ahead)) numbers s.waiting)

  pub waiting_then : (a : Option Ahead) (t' : List (List ℕ)) (space' most' : ℕ) → s.ahead ≡ a → AllWait (Some v.window) t' space' most' (early_of a)
      → AllWait (numbers_of s.window) t' space' most' (early_of s.ahead)
  waiting_then a t' space' most' q h = subst (λ x. AllWait (numbers_of s.window) t' space' most' (early_of x)) (sym q) (subst (λ n. AllWait n t' space' most' (early_of a)) (sym numbers) h)

  -- once a packet of at most P bytes is appended; w is the window as code has it
  pub waiting_appended : (a : Option Ahead) (w : Window) (b : List ℕ) (t' : List (List ℕ)) (space' most' : ℕ) → s.ahead ≡ a → w ≡ v.window → length b ≤ w.packet
      → t' ≡ t ++ b ∷ [] → space' ≡ space → most' ≡ most → AllWait (Some v.window) t' space' most' (early_of a)
  waiting_appended a w b t' space' most' q same small x y z =
      waits_at (Some v.window) _ t' _ space' _ most' (early_of a) x y z
      (waits_more (Some v.window) t space most (early_of a) b (waiting_now a q) (subst (λ u. length b ≤ u.packet) same small))

  -- a Send of at most P bytes that stands for packet j; w is the window as code has it, r whether the packet lacks space
  module _ (w : Window) (same_w : w ≡ v.window) (number : ℕ) (b : List ℕ) (j : ℕ) (m : Meant v.window (length t) (sink_of s).out.early number j) (small_w : length b ≤ w.packet)
      (r : Bool) (lacks_w : r ≡ lacks space most w.packet (bytes_of t) (length t) j (length b)) where
    small : length b ≤ v.window.packet
    small = subst (λ x. length b ≤ x.packet) same_w small_w

    lacks_is : r ≡ short v.window (sink_of s) j (length b)
    lacks_is = lacks_w ∙ ap (λ x. lacks space most x.packet (bytes_of t) (length t) j (length b)) same_w

    sent : (l : SinkPipe) → Sent v.window (sink_of s) number b l → SentIn (numbers_of s.window) (sink_of s) number b l
    sent l h = subst (λ n. SentIn n (sink_of s) number b l) (sym numbers) h

    pub sent_lacking : r ≡ true → (c : Since) → c ≡ lacked_one s.since → SentIn (numbers_of s.window) (sink_of s) number b (noted c (sink_of s))
    sent_lacking x c q = subst (λ d. SentIn (numbers_of s.window) (sink_of s) number b (noted d (sink_of s))) (sym q) (sent _ (lacking j m small (sym lacks_is ∙ x) refl))

    pub sent_dropped : r ≡ false → s.ahead ≡ None → (j ≡ length t → ⊥) → SentIn (numbers_of s.window) (sink_of s) number b (noted Otherwise (sink_of s))
    sent_dropped x none n = sent _ (dropped j m small (sym lacks_is ∙ x) (ap is_some none) (let l : length t < j = omega (arith, m.from, n) in l) refl)

    -- packet f is taken, with those of e that follow
    pub sent_first : (a : Option Ahead) (t' : List (List ℕ)) (space' most' : ℕ) → s.ahead ≡ a → r ≡ false → j ≡ length t → Follows (t ++ b ∷ []) (early_of a) t' → space' ≡ space → most' ≡ most
        → SentIn (numbers_of s.window) (sink_of s) number b (sink_at (is_some s.ahead) (numbers_of s.window) t' (early_of s.ahead) space' most' Otherwise)
    sent_first a t' space' most' q x same h es em =
        sent _ (kept j m small (sym lacks_is ∙ x) (λ _. same)
        (kept_first t t' b (early_of s.ahead) j same (subst (λ y. Follows (t ++ b ∷ []) (early_of y) t') (sym q) h) (numbers_of s.window)) refl es em refl)

    -- a later packet waits ahead
    waits_too : r ≡ false → Waits (Some v.window) t space most j b
    waits_too x = waits_of v.window t space most j b m.within small (sym lacks_is ∙ x)

    later : (j ≡ length t → ⊥) → length t < j
    later n = omega (arith, m.from, n)

    module _ (a k : Ahead) (q : s.ahead ≡ Some a) (x : r ≡ false) (n : j ≡ length t → ⊥) (kept_is : packets k ≡ kept_at j b (packets a)) where
      pub waiting_after : AllWait (numbers_of s.window) t space most (packets k)
      waiting_after =
          subst (λ e. AllWait (numbers_of s.window) t space most e) (sym kept_is)
          (subst (λ y. AllWait y t space most (kept_at j b (packets a))) (sym numbers) (after_waits (packets a) j b (Some v.window) t space most (waits_too x) (waiting_now (Some a) q)))

      none_kept : kept_at j b (packets a) (length t) ≡ None
      none_kept = after_past (packets a) j b (length t) (later n) (ap (λ y. early_of y (length t)) (sym q) ∙ s.past)

      pub past_after : packets k (length t) ≡ None
      past_after = ap (λ e. e (length t)) kept_is ∙ none_kept

      near : (i : ℕ) (c : List ℕ) → packets a i ≡ Some c → i < length t + 16
      near i c h = omega (arith, (waiting_now (Some a) q i c h).near, burst_most v.window v.within)

      pub sent_ahead : SentIn (numbers_of s.window) (sink_of s) number b (sink_at true (numbers_of s.window) t (packets k) space most Otherwise)
      sent_ahead =
          sent _ (kept j m small (sym lacks_is ∙ x) (λ z. absurd (both_ways (is_some s.ahead) z (ap is_some q)))
          (subst (λ e. Kept (sink_of s).out j b (record { numbers = numbers_of s.window; taken = t; early = early_from (length t) e })) (sym kept_is)
          (subst (λ y. Kept (record { numbers = numbers_of s.window; taken = t; early = early_from (length t) (early_of y) }) j b (record { numbers = numbers_of s.window; taken = t; early = early_from (length t) (kept_at j b (packets a)) })) (sym q)
          (kept_gather (packets a) j b t m.from (omega (arith, m.within, burst_most v.window v.within)) near (numbers_of s.window) none_kept)))
          (sym (ap is_some q)) refl refl refl)
