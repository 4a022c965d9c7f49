-- A run that is timed, block after block.
use Rattle.std.proofs.Common.{◌≡◌, ℕ, ◌+◌, ◌-◌, ◌^◌, ◌<◌, min, List, ◌++◌, length, take, None, sym, ap, ◌∙◌, arith}
use Rattle.std.proofs.lemmas.List.Sums.{fold-append}
use Rattle.samples.specs.declared.kinds.ConverterSample.{ConverterSample}
use Rattle.sources.specs.Streams.{Stream}
use Rattle.player.specs.Standing.{Standing, Stands}
use Rattle.program.specs.Blocks.{Comes}
use Rattle.program.specs.Bench.{sum_from}
use Rattle.program.specs.declared.block.Block.{Block}
use Rattle.program.proofs.Coming.{more}

-- items are counted and added up so far
pub record Adding (w : Stream ConverterSample) (s : Standing ConverterSample) (items sum : ℕ) : Type 0 where
  pub place : ℕ
  pub at : Stands s w place
  pub counted : items ≡ min place (2 ^ 64 - 1)
  pub added : sum ≡ sum_from 0 (take place w.items)

module _ (w : Stream ConverterSample) (s s' : Standing ConverterSample) (items sum : ℕ) (adding : Adding w s items sum)
    (block after : List ConverterSample) (came : Block) (room : 0 < length block) (comes : Comes w adding.place block after s' came) where
  pub adds : came.ending ≡ None → (items' sum' : ℕ) → items' ≡ min (items + came.count) (2 ^ 64 - 1) → sum' ≡ sum_from sum (take came.count after) → Adding w s' items' sum'
  adds none items' sum' h k =
      let more = more w adding.place block after s s' came room adding.at comes none in
      record {
        place = adding.place + came.count;
        at = comes.onward;
        counted = let c = adding.counted in omega arith;
        added = k ∙ ap (λ (a : ℕ). sum_from a (take came.count after)) adding.added ∙ sym (fold-append _ 0 (take adding.place w.items) (take came.count after)) ∙ ap (sum_from 0) (sym more.joined);
      }

-- items are kept so far
pub record Taking (w : Stream ConverterSample) (s : Standing ConverterSample) (items : List ConverterSample) : Type 0 where
  pub place : ℕ
  pub at : Stands s w place
  pub taken : items ≡ take place w.items

module _ (w : Stream ConverterSample) (s s' : Standing ConverterSample) (items : List ConverterSample) (taking : Taking w s items)
    (block after : List ConverterSample) (came : Block) (room : 0 < length block) (comes : Comes w taking.place block after s' came) where
  pub takes : came.ending ≡ None → (items' : List ConverterSample) → items' ≡ items ++ take came.count after → Taking w s' items'
  takes none items' h =
      let more = more w taking.place block after s s' came room taking.at comes none in
      record {
        place = taking.place + came.count;
        at = comes.onward;
        taken = h ∙ ap (λ (a : List ConverterSample). a ++ take came.count after) taking.taken ∙ sym more.joined;
      }
