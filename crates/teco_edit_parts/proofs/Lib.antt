mod Choices
mod Named
