-- What the loading program answers.
pub mod Program
