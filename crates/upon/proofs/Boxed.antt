-- What a boxed value gives: the engine's lemmas, passed on.
pub use Rattle.upon_engine.proofs.Boxed.{boxed_gives, boxed_reads}
