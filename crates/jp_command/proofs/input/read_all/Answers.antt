use Rattle.std.proofs.Common.{◌≡◌, ◌≤◌, ◌<◌, ℕ, List, ◌+◌, ◌++◌, arith, drop, length, refl, rules, sym, take, ◌∙◌, ap}
use Rattle.std.proofs.Common.{vec_len}
use Rattle.std.proofs.KnownBytes.{Consumes-trans}
use Rattle.std.proofs.lemmas.List.{length-append, length-drop, length-take-le, take-append-drop}
use Rattle.std.proofs.Math.Seq.{take-append-add}
use Rattle.jp_command.specs.Limits.{chunk_size}
use Rattle.jp_command.proofs.Streams.{come-more, come-none}
use Rattle.jp_command.proofs.input.read_all.Goals as goal

pub chunks-init : goal.chunks-init
chunks-init g c = record {
  came = search rules;
  few = search rules;
  calls = come-none _ _ _ refl;
  within = search rules;
  room = search rules;
  works = search rules;
}

-- with what a read has filled, the bytes are those before and these
grown : (count more : ℕ) (before after : List ℕ) → count ≤ length after
    → take count after ≡ take count before
    → take (count + more) after ≡ take count before ++ take more (drop count after)
grown count more before after within same =
    let long : length (take count after) ≡ count = length-take-le count after within in
    ap (take (count + more)) (sym (take-append-drop count after))
    ∙ ap (λ k. take (k + more) (take count after ++ drop count after)) (sym long)
    ∙ take-append-add (take count after) (drop count after) more
    ∙ ap (λ xs. xs ++ take more (drop count after)) same

pub returns-then-more-count-clause-stopped : goal.returns-then-more-count-clause-stopped
returns-then-more-count-clause-stopped g c =
    let count = c.chunks.count in
    let more = c.in-Ok.more in
    let xs = c.chunks.bytes.items in
    let ys = c.read_behind.new.buffer.items in
    let old : length xs ≡ vec_len c.chunks.bytes = sym c.chunks.bytes.ok.0 in
    let new : length ys ≡ vec_len c.read_behind.new.buffer = sym c.read_behind.new.buffer.ok.0 in
    let size : length (drop count ys) ≡ chunk_size =
    length-drop count ys ∙ omega (arith, new, c.in-Ok.ensures.len, c.in_ok-make_room.ensures.room) in
    let behind : more ≤ length (drop count ys) =
    omega (arith, new, size, c.in-Ok.ensures.bound, c.in-Ok.ensures.len, c.in_ok-make_room.ensures.room) in
    let rest : length (take more (drop count ys)) ≡ more = length-take-le _ _ behind in
    let before : length (take count xs) ≡ count = length-take-le _ _ (omega (arith, old, c.chunks.invariant.within)) in
    record {
      before = take count xs;
      rest = take more (drop count ys);
      came = Consumes-trans _ _ _ _ _ c.chunks.invariant.came c.in-Ok.ensures.bytes.0;
      few = omega (arith, before, c.chunks.invariant.few);
      many = rw length-append (omega (arith, before, rest, c.if-more-count.true, c.chunks.invariant.few));
      small = omega (arith, rest, behind, size);
      works = search rules;
      between = c.chunks.input;
      calls = c.chunks.invariant.calls;
      last = c.in-Ok.ensures.call;
    }

pub chunks-preserved : goal.chunks-preserved
chunks-preserved g c =
    let count = c.chunks.count in
    let more = c.in-Ok.more in
    let xs = c.chunks.bytes.items in
    let ys = c.read_behind.new.buffer.items in
    let new : length ys ≡ vec_len c.read_behind.new.buffer = sym c.read_behind.new.buffer.ok.0 in
    let within : count ≤ length ys =
    omega (arith, new, c.in-Ok.ensures.len, c.in_ok-make_room.ensures.room) in
    let all : take (count + more) ys ≡ take count xs ++ take more (drop count ys) =
    grown count more xs ys within (c.in-Ok.ensures.front ∙ c.in_ok-make_room.ensures.front) in
    let size : length (drop count ys) ≡ chunk_size =
    length-drop count ys ∙ omega (arith, new, c.in-Ok.ensures.len, c.in_ok-make_room.ensures.room) in
    let behind : more ≤ length (drop count ys) =
    omega (arith, new, size, c.in-Ok.ensures.bound, c.in-Ok.ensures.len, c.in_ok-make_room.ensures.room) in
    let some : 0 < more = omega (arith, c.if-more-eq0.false) in
    record {
      came = rw all (Consumes-trans _ _ _ _ _ c.chunks.invariant.came c.in-Ok.ensures.bytes.0);
      few = omega (arith, c.if-more-count.false, c.chunks.invariant.few);
      calls = come-more _ _ _ _ (take count xs) (take (count + more) ys) (drop count ys) more
          c.chunks.invariant.calls c.in-Ok.ensures.call behind some all;
      within = c.in-Ok.ensures.bound;
      room = omega (arith, c.in-Ok.ensures.len, c.in_ok-make_room.ensures.room);
      works = search rules;
    }
