-- What a renderer denotes: the engine's lemmas, passed on.
pub use Rattle.upon_engine.proofs.Renderings.{engine_of, Gives, on_base, on_value, on_source, GivesBy, by_source}
