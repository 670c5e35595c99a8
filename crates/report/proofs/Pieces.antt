-- Laws of a text that is put into a slice piece after piece.
-- Assumes nothing.
use mathlib.Core.Path.{◌≡◌, refl, ap, sym, ◌∙◌}
use mathlib.Core.List.{List, [], ◌++◌, append_assoc, append-nil}
use Prim.Native.Nat.{ℕ, ◌+◌, ◌≤◌}
use native.Mathlib.Nat.{zero-add}
use native.Mathlib.Numerals.{add-one}
use native.Mathlib.Omega.{arith}
use lib.ListN.{length, take, length-append, length-take}
use lib.Seq.{length-take-le}
use Rattle.torus.specs.Sum.{joined}
use Rattle.report.specs.Report.{Put}
use Rattle.report.specs.Inner.{Writes}
use Rattle.report.specs.declared.Writer.{Writer}

-- No text.
pub put_none : {s : List ℕ} {at : ℕ} → Put s at [] s at
put_none {s} {at} = record { ends = omega arith; holds = sym (append-nil (take at s)) }

-- A text, and behind it another.
pub put_put : {b m a t u : List ℕ} {at e f : ℕ} → Put b at t m e → Put m e u a f → Put b at (t ++ u) a f
put_put {b} {t = t} {u} {at} p q =
    record {
      ends = omega (arith, length-append t u);
      holds = q.holds ∙ ap (λ l. l ++ u) p.holds ∙ append_assoc (take at b) t u;
    }

-- The text lies inside the slice.
pub put_inside : {b a t : List ℕ} {at e : ℕ} → at ≤ length b → Put b at t a e → e ≤ length a
put_inside {b} {a} {t} {at} {e} h p =
    let front : length (take e a) ≡ at + length t =
    ap length p.holds ∙ length-append (take at b) t ∙ ap (λ n. n + length t) (length-take-le at b h) in
    omega (arith, length-take e a)

-- A text at the front: how long it is, that the slice holds it, and that it lies inside.
pub put_front : {b a t : List ℕ} {e : ℕ} → Put b 0 t a e → (e ≡ length t) × (take e a ≡ t) × (e ≤ length a)
put_front {t = t} p = (p.ends ∙ zero-add (length t), p.holds, put_inside (omega arith) p)

-- ---- the same, by a writer

pub writes_none : {w : Writer} → Writes w [] w
writes_none = record { put = put_none; room = refl; lent = refl }

pub writes_both : {u v w : Writer} {t s : List ℕ} → Writes u t v → Writes v s w → Writes u (t ++ s) w
writes_both p q = record { put = put_put p.put q.put; room = q.room ∙ p.room; lent = q.lent ∙ p.lent }

-- One turn more of a loop that writes part i in its turn i.
pub writes_joined : {u v w : Writer} (f : ℕ → List ℕ) (i : ℕ)
    → Writes u (joined i f) v → Writes v (f i) w → Writes u (joined (i + 1) f) w
unfolding joined
writes_joined f i p q = rw (add-one i) (writes_both p q)

-- What is written stands in the slice that was lent to the writer, once it comes back.
pub written_back : {w v : Writer} {t : List ℕ} (last : List ℕ) → Writes w t v → (w.room.ghost_name ≡ v.room.ghost_name → last ≡ v.room.now)
    → Put w.room.now w.at t last v.at
written_back last p back = rw (back (sym p.lent)) p.put
