use Rattle.std.proofs.Common.{◌≡◌, ◌+◌}
use Rattle.sb_frames.specs.Book.{free_count}
use Rattle.sb_sub.specs.Sharing.{CanShare, SharesBuffer}
use Rattle.sb_sub.proofs.bind.share_buffer.Given as goal

abbrev pub invariant-loop-page : goal.invariant-loop-page
invariant-loop-page l = record {
  root : l.root ≡ l.fn.root;
  shared : SharesBuffer l.home l.server l.fn.root l.fn.book l.book l.fn.memory l.memory l.owner l.thread l.index 0 l.page;
  fewer : free_count l.book + l.page ≡ free_count l.fn.book;
  can : CanShare l.home l.server l.root l.book l.memory;
}
