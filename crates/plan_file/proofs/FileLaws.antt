-- Laws of a plan file as it is written: what is put into a part that was lent, records one behind the other over any stride, the length
-- of a file, and what the writer answers. Assumes nothing.
use Prim.Native.Nat.{ℕ, ◌+◌, ◌-◌, ◌*◌, ◌<◌, ◌≤◌}
use mathlib.Core.Path.{◌≡◌, refl, ◌∙◌}
use mathlib.Core.Bool.{true}
use mathlib.Core.List.{List, ◌++◌, append_assoc}
use native.Mathlib.Nat.{mul-suc}
use native.Mathlib.Numerals.{add-one}
use native.Mathlib.Omega.{arith}
use borrow.Author.Tests.{le-leb, lt-leb}
use borrow.Rule.Slice.PartMut.{put_mid}
use lib.ListN.{length, get_or, length-append}
use lib.Seq.{length-take-le}
use Rattle.std.specs.Prelude.{Ok, Err}
use Rattle.units.specs.Refusals.{refused}
use Rattle.units.specs.declared.Fault.TheVariants.{ShortBuffer}
use Rattle.little_endian.specs.Little.{little}
use Rattle.little_endian.specs.Rows.{each}
use Rattle.buffer.specs.Puts.{put_front, put_end, put_in, put_at, Put}
use Rattle.little_endian.proofs.LittleLaws.{little-length}
use Rattle.little_endian.proofs.RowLaws.{each-length, Run, run_more, run-all}
use Rattle.buffer.proofs.PutLaws.{part_from, part_in, put_is, put-kept, due_all, due-room, due-next, due-put}
use Rattle.plan_record.specs.declared.record.Bus.{Bus}
use Rattle.plan_record.specs.declared.record.PlacedModule.{PlacedModule}
use Rattle.plan_record.specs.declared.record.BusPlan.{BusPlan}
use Rattle.plan_record.specs.Record.{bus_places, module_places, buses_of, modules_of, no_bus, no_placed}
use Rattle.plan_record.specs.Good.{good_plan}
use Rattle.plan_record.specs.Whole.{Whole}
use Rattle.plan_record.proofs.GoodPlanLaws.{good-figures}
use Rattle.plan_file.specs.Bytes.{module_stride, bus_stride, trailer_length, file_length, file_max}
use Rattle.plan_file.specs.Bytes.{module_bytes, bus_bytes, trailer_bytes, file_bytes}
use Rattle.plan_file.specs.Puts.{SmallTrailer, Small}
use Rattle.plan_file.specs.Files.{write_answer, write_leaves}

-- with the room, at the front of a buffer
module _ (w o b : List ℕ) where
  put_front_lem : {r : ℕ} → length w ≤ length o → Put w 0 o b r → b ≡ put_front w o
  unfolding put_at
  put_front_lem h p = let e : 0 + length w ≡ length w = omega arith in p.holds ∙ rw (e, le-leb (length w) (length o) h)

  front-put : (r : ℕ) → r ≡ length w → length w ≤ length o → b ≡ put_front w o → Put w 0 o b r
  unfolding put_in
  front-put r e h g = record { behind = omega arith; holds = (put_is {r = put_end w 0 o} (omega arith) (refl, g)).holds }

-- into the part that was lent from a place on
put_lent : (w : List ℕ) (at r : ℕ) (b q : List ℕ) → r ≡ at + length w → r ≤ length b → q ≡ put_front w (part_from at b)
    → Put w at b (put_mid at (length b - at) b q) r
put_lent w at r b q e h g = record { behind = e; holds = (put_is {r = put_end w at b} (omega arith) (refl, part_in w at b q g)).holds }

-- bytes at the front, and a number of 8 bytes behind them
pub put-number : (w : List ℕ) (v : ℕ) (o : List ℕ) {b e : List ℕ} {k r : ℕ} → length w + 8 ≤ length o
    → (k ≡ put_end w 0 o) × (b ≡ put_in w 0 o) → (r ≡ put_end (little 8 v) k b) × (e ≡ put_in (little 8 v) k b)
    → e ≡ put_front (w ++ little 8 v) o
put-number w v o {b} {e} {k} {r} h p q =
    let n : length (w ++ little 8 v) ≡ length w + 8 = rw (length-append, little-length) in
    let d = due-put w (little 8 v) (due_all {rest = w ++ little 8 v} {at = 0} {start = o} refl (omega arith)) p in
    put_front_lem (w ++ little 8 v) o e (omega arith) (d.done e r (put_is d.room q))

-- and one of 8 bytes more
pub put-numbers : (w : List ℕ) (v u : ℕ) (o : List ℕ) {b e g : List ℕ} {k l r : ℕ} → length w + 16 ≤ length o
    → (k ≡ put_end w 0 o) × (b ≡ put_in w 0 o) → (l ≡ put_end (little 8 v) k b) × (e ≡ put_in (little 8 v) k b)
    → (r ≡ put_end (little 8 u) l e) × (g ≡ put_in (little 8 u) l e) → g ≡ put_front (w ++ (little 8 v ++ little 8 u)) o
put-numbers w v u o {g = g} {r = r} h p q s =
    let all = w ++ (little 8 v ++ little 8 u) in
    let n : length all ≡ length w + 16 = simp (length-append, little-length) (omega arith) in
    let d = due-put w (little 8 v ++ little 8 u) (due_all {rest = all} {at = 0} {start = o} refl (omega arith)) p in
    let c = due-put (little 8 v) (little 8 u) d q in
    put_front_lem all o g (omega arith) (c.done g r (put_is c.room s))

-- elements of k bytes each, put one behind the other into parts that were lent
module _ {A : Type 0} {f : A → List ℕ} {k : ℕ} {l : List A} {o : List ℕ} {i : ℕ} {b : List ℕ} (run : Run f k l 0 o i b (k * i)) where
  pub run_lent : {x : A} {q : List ℕ} (z : A) → length (f x) ≡ k → i < length l → get_or l i z ≡ x → k * (i + 1) ≤ length b
      → q ≡ put_front (f x) (part_from (k * i) b) → Run f k l 0 o (i + 1) (put_mid (k * i) (length b - k * i) b q) (k * (i + 1))
  run_lent {x} {q} z long h v room g =
      let e : k * (i + 1) ≡ k * i + k = rw add-one (mul-suc k i) in
      let p = put_lent (f x) (k * i) (k * (i + 1)) b q (omega (arith, long)) room g in
      run_more f k l z h (omega arith) run (put-kept p (omega (arith, long))) (rw v long) (rw v p)

  pub run-front : (n : ℕ) → length l ≡ n → i ≡ n → k * n ≤ length o → b ≡ put_front (each f l) o
  run-front n h e room = let a = run-all f k l n h e run in put_front_lem (each f l) o b (omega (arith, a.1)) a.0

pub module_length_lem : (m : PlacedModule) → length (module_bytes m) ≡ module_stride
unfolding module_bytes little
module_length_lem m = refl

pub bus-length : (b : Bus) → length (bus_bytes b) ≡ bus_stride
unfolding bus_bytes little
bus-length b = refl

pub trailer-length : (p : BusPlan) → length (trailer_bytes p) ≡ trailer_length
unfolding trailer_bytes little
trailer-length p = refl

-- a record whose counts keep its places
module _ (p : BusPlan) (w : Whole p) (s : SmallTrailer p) where
  pub modules-count : length (modules_of p) ≡ p.module_count
  modules-count = length-take-le p.module_count p.modules (omega arith)

  pub buses-count : length (buses_of p) ≡ p.bus_count
  buses-count = length-take-le p.bus_count p.buses (omega arith)

  pub modules_length : length (each module_bytes (modules_of p)) ≡ module_stride * p.module_count
  modules_length = each-length module_bytes module_stride (modules_of p) p.module_count no_placed modules-count (λ i h. module_length_lem _)

  pub buses_length : length (each bus_bytes (buses_of p)) ≡ bus_stride * p.bus_count
  buses_length = each-length bus_bytes bus_stride (buses_of p) p.bus_count no_bus buses-count (λ i h. bus-length _)

  small-length : length (file_bytes p) ≡ file_length p.module_count p.bus_count
  unfolding file_bytes
  small-length = simp (length-append, modules_length, buses_length, trailer-length)

  -- a file put by its three parts, each behind those before it
  pub file-put : (o b q r : List ℕ) → file_length p.module_count p.bus_count ≤ length o
      → b ≡ put_front (each module_bytes (modules_of p)) o
      → let m = module_stride * p.module_count in
      let n = m + bus_stride * p.bus_count in
      let c = put_mid m (length b - m) b q in
      q ≡ put_front (each bus_bytes (buses_of p)) (part_from m b) → r ≡ put_front (trailer_bytes p) (part_from n c)
      → put_mid n (length c - n) c r ≡ put_front (file_bytes p) o
  unfolding file_bytes
  file-put o b q r h e f g =
      let ms = each module_bytes (modules_of p) in
      let bs = each bus_bytes (buses_of p) in
      let t = trailer_bytes p in
      let m = module_stride * p.module_count in
      let n = m + bus_stride * p.bus_count in
      let ml = modules_length in
      let bl = buses_length in
      let tl = trailer-length p in
      let l = small-length in
      let d0 = due_all {rest = ms ++ (bs ++ t)} {w = file_bytes p} {at = 0} {start = o} (append_assoc ms bs t) (omega arith) in
      let d1 = due-next ms (bs ++ t) d0 (front-put ms o b m (omega arith) (omega arith) e) in
      let d2 = due-next bs t d1 (put_lent bs m n b q (omega arith) (omega (arith, due-room bs t d1)) f) in
      let c = put_mid m (length b - m) b q in
      let last = put_lent t n (n + trailer_length) c r (omega arith) (omega (arith, d2.room)) g in
      put_front_lem (file_bytes p) o _ (omega arith) (d2.done _ _ last)

-- what is asked of a plan that is written holds of a good one
pub good-small : (p : BusPlan) → good_plan p ≡ true → Small p
good-small p e =
    let g = good-figures p e in
    record {
      trailer = record { wires = omega arith; limit = omega arith; buses = g.buses_high; modules = g.modules_high };
      placed =
          λ i h. record { number = omega (arith, g.number i h); bus = omega (arith, g.bus i h); wires = omega (arith, g.wires i h) };
      width = λ b h. omega (arith, g.width b h);
    }

pub counts_fit : (p : BusPlan) → good_plan p ≡ true → (p.module_count ≤ module_places) × (p.bus_count ≤ bus_places)
counts_fit p e = let g = good-figures p e in (g.modules_high, g.buses_high)

-- the file of a good plan
module _ (p : BusPlan) (w : Whole p) (good : good_plan p ≡ true) where
  pub file-length : length (file_bytes p) ≡ file_length p.module_count p.bus_count
  file-length = small-length p w (good-small p good).trailer

  pub file-most : length (file_bytes p) ≤ file_max
  file-most = let g = (good-small p good).trailer in omega (arith, file-length)

-- what the writer answers, and what it leaves
module _ (p : BusPlan) (buf : List ℕ) where
  module _ (e : good_plan p ≡ true) where
    pub write_short : length buf < length (file_bytes p) → (Err (refused ShortBuffer 0) ≡ write_answer p buf) × (buf ≡ write_leaves p buf)
    unfolding write_answer write_leaves
    write_short h = let l = lt-leb (length (file_bytes p)) (length buf) h in (rw (e, l), rw (e, l))

    pub write_whole : length (file_bytes p) ≤ length buf
        → (Ok (length (file_bytes p)) ≡ write_answer p buf) × (put_front (file_bytes p) buf ≡ write_leaves p buf)
    unfolding write_answer write_leaves
    write_whole h = let l = le-leb (length (file_bytes p)) (length buf) h in (rw (e, l), rw e)
